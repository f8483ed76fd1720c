use Rattle.std.proofs.Common.{refl, rules}
use Rattle.page_journal.specs.History.{all_done}
use Rattle.page_journal.specs.Steps.{KeepsLog}
use Rattle.page_journal.specs.declared.commit_call.CommitCall.TheVariants.{Sync}
use Rattle.page_journal.specs.declared.disk_call.DiskCall.TheVariants.{Commits}
use Rattle.page_journal.proofs.MemDiskLemmas.{append_sync, uncounted, commits_kept, mem_moment}
use Rattle.page_journal.proofs.mem_disk.MemDiskDisk.sync_log.Goals as goal

pub returns-clause-kept : goal.returns-clause-kept
returns-clause-kept c =
    let old = c.args.self.now in
    commits_kept Sync (KeepsLog (all_done old.first old.calls).commits) c.note_append.result old c.note_append.new.self c.note_append.ensures.ok (λ d e lead. lead.1)

pub returns-clause-does : goal.returns-clause-does
returns-clause-does c = (append_sync Sync c.note_append.result c.args.self.now c.note_append.new.self c.note_append.ensures.ok c.note_append.ensures.err (λ f. refl) (λ seen d e lead. lead.0), uncounted _ c.note_append.result c.args.self.now c.note_append.new.self c.note_append.ensures.ok c.note_append.ensures.err, search rules)

pub returns-clause-moment : goal.returns-clause-moment
returns-clause-moment c = mem_moment (Commits Sync) c.note_append.result c.args.self.now c.note_append.new.self c.note_append.ensures.ok
