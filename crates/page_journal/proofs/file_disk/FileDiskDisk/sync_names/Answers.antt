use Rattle.std.proofs.Common.{refl, is_some}
use Rattle.page_journal.specs.Files.{Files}
use Rattle.page_journal.specs.FileEvents.{SyncNames}
use Rattle.page_journal.proofs.FileDiskLemmas.{call_syncs, syncs_names}
use Rattle.page_journal.proofs.file_disk.FileDiskDisk.sync_names.Goals as goal

pub returns : goal.returns
returns g c = call_syncs _ (λ (f : Files). (is_some f.side, is_some f.commits.log)) SyncNames c.made.result _ c.args.self.now c.made.new.self syncs_names (λ seen d kept. λ i. (kept.0 i, kept.1 i)) c.made.ensures.notes c.made.ensures.fault refl
