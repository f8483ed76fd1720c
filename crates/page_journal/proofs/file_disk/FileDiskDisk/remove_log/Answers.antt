use Rattle.std.proofs.Common.{◌≡◌, refl, None}
use Rattle.page_journal.specs.Files.{Files}
use Rattle.page_journal.specs.Steps.{InCommits, RemovesLog}
use Rattle.page_journal.specs.FileEvents.{RemoveLog}
use Rattle.page_journal.proofs.FileDiskLemmas.{call_does, call_seen, removes_log}
use Rattle.page_journal.proofs.file_disk.FileDiskDisk.remove_log.Goals as goal

pub returns-clause-does : goal.returns-clause-does
returns-clause-does g c = call_does _ (InCommits RemovesLog) (RemoveLog) c.made.result _ c.args.self.now c.made.new.self (removes_log) c.made.ensures.notes c.made.ensures.fault c.self.view_is

pub returns-clause-gone : goal.returns-clause-gone
returns-clause-gone g c = call_seen (RemoveLog) (λ (f h : Files). h.commits.log ≡ None) c.made.result _ c.args.self.now c.made.new.self c.made.ensures.notes c.self.view_is (λ f. refl)
