use Rattle.std.proofs.Common.{◌≡◌, refl, Some}
use Rattle.page_journal.specs.Files.{Files}
use Rattle.page_journal.specs.Steps.{Names}
use Rattle.page_journal.specs.FileEvents.{Name}
use Rattle.page_journal.proofs.FileDiskLemmas.{call_does, call_seen, names}
use Rattle.page_journal.proofs.file_disk.FileDiskDisk.name.Goals as goal

pub returns-clause-does : goal.returns-clause-does
returns-clause-does g c = call_does _ (Names) (Name) c.made.result _ c.args.self.now c.made.new.self (names) c.made.ensures.notes c.made.ensures.fault c.self.view_is

pub returns-clause-named : goal.returns-clause-named
returns-clause-named g c = call_seen (Name) (λ (f h : Files). h.side ≡ Some f.fresh) c.made.result _ c.args.self.now c.made.new.self c.made.ensures.notes c.self.view_is (λ f. refl)
