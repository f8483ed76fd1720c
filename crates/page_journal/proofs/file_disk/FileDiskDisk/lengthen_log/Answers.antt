use Rattle.std.proofs.Common.{◌≡◌, refl, option_map}
use Rattle.page_journal.specs.Files.{Files}
use Rattle.page_journal.specs.Steps.{InCommits, ChangesLog, zeroed}
use Rattle.page_journal.specs.FileEvents.{LengthenLog}
use Rattle.commit_paper.specs.Steps.{Lengthens}
use Rattle.page_journal.proofs.FileDiskLemmas.{append_does, append_seen, lengthens_log}
use Rattle.page_journal.proofs.file_disk.FileDiskDisk.lengthen_log.Goals as goal

pub returns-clause-does : goal.returns-clause-does
returns-clause-does g c = append_does _ (InCommits (ChangesLog (Lengthens c.args.at))) (LengthenLog c.args.at c.args.n) c.appended.result _ c.args.self.now c.appended.new.self (lengthens_log c.args.at c.args.n) c.appended.ensures.notes c.appended.ensures.fault c.self.view_is

pub returns-clause-zeros : goal.returns-clause-zeros
returns-clause-zeros g c = append_seen (LengthenLog c.args.at c.args.n) (λ (f h : Files). h.commits.log ≡ option_map (zeroed c.args.at c.args.n) f.commits.log) c.appended.result _ c.args.self.now c.appended.new.self c.appended.ensures.notes c.self.view_is (λ f. refl)
