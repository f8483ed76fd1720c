use Rattle.std.proofs.Common.{◌≡◌, refl, None}
use Rattle.page_journal.specs.Files.{Files}
use Rattle.page_journal.specs.Steps.{RemovesSide}
use Rattle.page_journal.specs.FileEvents.{Remove}
use Rattle.page_store.specs.FileValues.{gives_back}
use Rattle.page_journal.proofs.FileDiskLemmas.{call_does, call_seen, removes, call_moment}
use Rattle.page_journal.proofs.file_disk.FileDiskDisk.remove.Goals as goal

pub returns-clause-does : goal.returns-clause-does
returns-clause-does g c = call_does _ (RemovesSide) (Remove) c.made.result _ c.args.self.now c.made.new.self (removes) c.made.ensures.notes c.made.ensures.fault c.self.view_is

pub returns-clause-gone : goal.returns-clause-gone
returns-clause-gone g c = call_seen (Remove) (λ (f h : Files). h.side ≡ None) c.made.result _ c.args.self.now c.made.new.self c.made.ensures.notes c.self.view_is (λ f. refl)

pub returns-clause-moment : goal.returns-clause-moment
returns-clause-moment g c = call_moment gives_back (Remove) c.made.result _ c.args.self.now c.made.new.self c.made.ensures.notes c.self.view_is
