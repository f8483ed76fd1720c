use Rattle.page_store.specs.FileValues.{gives_back}
use Rattle.page_journal.specs.Files.{Files}
use Rattle.page_journal.specs.Steps.{Nothing, KeepsLog}
use Rattle.page_journal.specs.FileEvents.{SyncLog}
use Rattle.page_journal.proofs.FileDiskLemmas.{append_does, append_kept, append_moment, syncs_log}
use Rattle.page_journal.proofs.file_disk.FileDiskDisk.sync_log.Goals as goal

pub returns-clause-kept : goal.returns-clause-kept
returns-clause-kept g c = append_kept SyncLog (λ (f d : Files). KeepsLog f.commits d.commits) c.appended.result _ c.args.self.now c.appended.new.self c.appended.ensures.notes c.self.view_is (λ f d kept. kept)

pub returns-clause-does : goal.returns-clause-does
returns-clause-does g c = append_does _ Nothing SyncLog c.appended.result _ c.args.self.now c.appended.new.self syncs_log c.appended.ensures.notes c.appended.ensures.fault c.self.view_is

pub returns-clause-moment : goal.returns-clause-moment
returns-clause-moment g c = append_moment gives_back SyncLog c.appended.result _ c.args.self.now c.appended.new.self c.appended.ensures.notes c.self.view_is
