use Rattle.std.proofs.Common.{◌++◌, refl, rules}
use Rattle.page_journal.specs.History.{all_done}
use Rattle.page_journal.specs.Steps.{KeepsLog}
use Rattle.page_journal.specs.declared.commit_call.CommitCall.TheVariants.{Sync}
use Rattle.page_journal.specs.declared.disk_call.DiskCall.TheVariants.{Commits}
use Rattle.page_journal.proofs.CallDiskLemmas.{call_append_sync, call_uncounted, call_commits_kept, call_moment}
use Rattle.page_journal.proofs.call_disk.CallDiskDisk.sync_log.Goals as goal

pub returns-clause-kept : goal.returns-clause-kept
returns-clause-kept c =
    let old = c.args.self.now in
    call_commits_kept c.note_append.result old c.note_append.new.self Sync (KeepsLog (all_done old.first (old.calls ++ old.past)).commits) c.note_append.ensures.ok (λ d e lead. lead.1)

pub returns-clause-does : goal.returns-clause-does
returns-clause-does c = (call_append_sync c.note_append.result c.args.self.now c.note_append.new.self Sync c.note_append.ensures.ok c.note_append.ensures.err (λ f. refl) (λ seen d e lead. lead.0), call_uncounted (Commits Sync) c.note_append.result c.args.self.now c.note_append.new.self c.note_append.ensures.ok c.note_append.ensures.err, search rules)

pub returns-clause-moment : goal.returns-clause-moment
returns-clause-moment c = call_moment c.note_append.result c.args.self.now c.note_append.new.self (Commits Sync) c.note_append.ensures.ok
