use Rattle.std.proofs.Common.{◌≡◌, refl, Some}
use Rattle.page_journal.specs.Files.{Files}
use Rattle.page_journal.specs.Steps.{InCommits, NamesLog}
use Rattle.page_journal.specs.FileEvents.{NameLog}
use Rattle.page_journal.proofs.FileDiskLemmas.{call_does, call_seen, names_log}
use Rattle.page_journal.proofs.file_disk.FileDiskDisk.name_log.Goals as goal

pub returns-clause-does : goal.returns-clause-does
returns-clause-does g c = call_does _ (InCommits NamesLog) (NameLog) c.made.result _ c.args.self.now c.made.new.self (names_log) c.made.ensures.notes c.made.ensures.fault c.self.view_is

pub returns-clause-named : goal.returns-clause-named
returns-clause-named g c = call_seen (NameLog) (λ (f h : Files). h.commits.log ≡ Some f.commits.fresh) c.made.result _ c.args.self.now c.made.new.self c.made.ensures.notes c.self.view_is (λ f. refl)
