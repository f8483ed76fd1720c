use Rattle.std.proofs.Common.{refl}
use Rattle.page_journal.specs.Files.{Files}
use Rattle.page_journal.specs.FileEvents.{Sync}
use Rattle.page_journal.proofs.FileDiskLemmas.{call_syncs, syncs}
use Rattle.page_journal.proofs.file_disk.FileDiskDisk.sync.Goals as goal

pub returns : goal.returns
returns g c = call_syncs _ (λ (f : Files). f.main) Sync c.made.result _ c.args.self.now c.made.new.self syncs (λ seen d kept. kept) c.made.ensures.notes c.made.ensures.fault refl
