use Rattle.std.proofs.Common.{◌≡◌, refl, rules}
use Rattle.page_journal.specs.Files.{CommitFiles}
use Rattle.page_journal.specs.History.{all_done}
use Rattle.page_journal.specs.declared.commit_call.CommitCall.TheVariants.{SyncFresh}
use Rattle.page_journal.specs.declared.disk_call.DiskCall.TheVariants.{Commits}
use Rattle.page_journal.proofs.MemDiskLemmas.{commits_sync, commits_kept, mem_moment}
use Rattle.page_journal.proofs.mem_disk.MemDiskDisk.sync_fresh_log.Goals as goal

pub returns : goal.returns
returns c =
    let old = c.args.self.now in (
      commits_kept SyncFresh (λ (f : CommitFiles). f.fresh ≡ (all_done old.first old.calls).commits.fresh) c.note.result old c.note.new.self c.note.ensures.ok (λ d e lead. lead.1),
      commits_sync SyncFresh c.note.result old c.note.new.self c.note.ensures.ok c.note.ensures.err (λ f. refl) (λ seen d e lead. lead.0),
      search rules,
      mem_moment (Commits SyncFresh) c.note.result old c.note.new.self c.note.ensures.ok,
    )
