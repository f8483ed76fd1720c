use Rattle.std.proofs.Common.{◌≡◌, refl, option_map}
use Rattle.page_journal.specs.Files.{Files}
use Rattle.page_journal.specs.Steps.{InCommits, ChangesLog, bytes_over}
use Rattle.page_journal.specs.FileEvents.{WriteLog}
use Rattle.commit_paper.specs.Steps.{Inks}
use Rattle.page_journal.proofs.FileDiskLemmas.{append_does, append_seen, writes_log}
use Rattle.page_journal.proofs.file_disk.FileDiskDisk.write_log.Goals as goal

pub returns-clause-does : goal.returns-clause-does
returns-clause-does g c = append_does _ (InCommits (ChangesLog (Inks c.args.at c.args.bytes.now))) (WriteLog c.args.at c.args.bytes.now) c.appended.result _ c.args.self.now c.appended.new.self (writes_log c.args.at c.args.bytes.now) c.appended.ensures.notes c.appended.ensures.fault c.self.view_is

pub returns-clause-written : goal.returns-clause-written
returns-clause-written g c = append_seen (WriteLog c.args.at c.args.bytes.now) (λ (f h : Files). h.commits.log ≡ option_map (bytes_over c.args.at c.args.bytes.now) f.commits.log) c.appended.result _ c.args.self.now c.appended.new.self c.appended.ensures.notes c.self.view_is (λ f. refl)
