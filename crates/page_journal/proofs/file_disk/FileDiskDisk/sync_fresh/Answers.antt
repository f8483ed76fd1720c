use Rattle.page_journal.specs.Files.{Files}
use Rattle.page_journal.specs.FileEvents.{SyncFresh}
use Rattle.page_journal.proofs.FileDiskLemmas.{call_syncs, syncs_fresh}
use Rattle.page_journal.proofs.file_disk.FileDiskDisk.sync_fresh.Goals as goal

pub returns : goal.returns
returns g c = call_syncs _ (λ (f : Files). f.fresh) SyncFresh c.made.result _ c.args.self.now c.made.new.self syncs_fresh (λ seen d kept. kept) c.made.ensures.notes c.made.ensures.fault c.self.view_is
