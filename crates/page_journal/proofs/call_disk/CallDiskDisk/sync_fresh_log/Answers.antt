use Rattle.std.proofs.Common.{◌≡◌, ◌++◌, refl, rules}
use Rattle.page_journal.specs.Files.{CommitFiles}
use Rattle.page_journal.specs.History.{all_done}
use Rattle.page_journal.specs.declared.commit_call.CommitCall.TheVariants.{SyncFresh}
use Rattle.page_journal.specs.declared.disk_call.DiskCall.TheVariants.{Commits}
use Rattle.page_journal.proofs.CallDiskLemmas.{call_commits_sync, call_commits_kept, call_moment}
use Rattle.page_journal.proofs.call_disk.CallDiskDisk.sync_fresh_log.Goals as goal

pub returns : goal.returns
returns c =
    let old = c.args.self.now in (
      call_commits_kept c.note.result old c.note.new.self SyncFresh (λ (f : CommitFiles). f.fresh ≡ (all_done old.first (old.calls ++ old.past)).commits.fresh) c.note.ensures.ok (λ d e lead. lead.1),
      call_commits_sync c.note.result old c.note.new.self SyncFresh c.note.ensures.ok c.note.ensures.err (λ f. refl) (λ seen d e lead. lead.0),
      search rules,
      call_moment c.note.result old c.note.new.self (Commits SyncFresh) c.note.ensures.ok,
    )
