use Rattle.page_journal.specs.Files.{Files}
use Rattle.page_journal.specs.FileEvents.{SyncFreshLog}
use Rattle.page_journal.proofs.FileDiskLemmas.{call_syncs, syncs_fresh_log}
use Rattle.page_journal.proofs.file_disk.FileDiskDisk.sync_fresh_log.Goals as goal

pub returns : goal.returns
returns g c = call_syncs _ (λ (f : Files). f.commits.fresh) SyncFreshLog c.made.result _ c.args.self.now c.made.new.self syncs_fresh_log (λ seen d kept. kept) c.made.ensures.notes c.made.ensures.fault c.self.view_is
