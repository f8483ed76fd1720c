use Rattle.std.proofs.Common.{◌≡◌, refl}
use Rattle.page_journal.specs.Files.{Files}
use Rattle.page_journal.specs.Steps.{Fresh, kept_more}
use Rattle.page_journal.specs.FileEvents.{Keep}
use Rattle.page_journal.proofs.FileDiskLemmas.{call_does, call_seen, keeps_page}
use Rattle.page_journal.proofs.file_disk.FileDiskDisk.keep.Goals as goal

pub returns-clause-does : goal.returns-clause-does
returns-clause-does g c = call_does _ (Fresh) (Keep c.args.n c.args.page.now) c.made.result _ c.args.self.now c.made.new.self (keeps_page c.args.n c.args.page.now) c.made.ensures.notes c.made.ensures.fault c.self.view_is

pub returns-clause-fresh : goal.returns-clause-fresh
returns-clause-fresh g c = call_seen (Keep c.args.n c.args.page.now) (λ (f h : Files). h.fresh ≡ kept_more f.fresh c.args.n c.args.page.now) c.made.result _ c.args.self.now c.made.new.self c.made.ensures.notes c.self.view_is (λ f. refl)
