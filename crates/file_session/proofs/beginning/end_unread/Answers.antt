use Rattle.std.proofs.Common.{◌∙◌, ap}
use Rattle.rec_types.specs.Table.{counted}
use Rattle.page_journal.specs.LoggedStores.{commits_in}
use Rattle.file_session.specs.FileFaults.{is_device_answer}
use Rattle.file_session.proofs.SettlingLemmas.{some_found, unread_leaves}
use Rattle.page_journal.specs.KeptStores.{opened_over}
use Rattle.file_session.proofs.beginning.end_unread.Goals as goal

pub returns-clause-left : goal.returns-clause-left
returns-clause-left g c steady left since =
    let d = g.D.DiskState in
    let store = c.args.store in
    unread_leaves d (g.met.D.Disk.counts_now) (opened_over (d.began store.disk) store.log (commits_in store.log (d.seen store.disk)) store.doubt) c.take_back-disk.result.0 c.end_beside-disk.result.0
    (λ f was. (c.take_back-disk.ensures.any_moment steady f was, some_found store.log (d.began store.disk) (commits_in store.log (d.seen store.disk)) store.doubt f (c.take_back-disk.ensures.commits (c.take_back-disk.ensures.alone steady) f was)))
    c.end_beside-disk.ensures.pages c.end_beside-disk.ensures.any_moment left since

pub returns-clause-failures : goal.returns-clause-failures
returns-clause-failures g c not_sealed =
    let again = is_device_answer c.end_beside-disk.result.1 in (
      again,
      c.end_beside-disk.ensures.failures ∙ ap (λ disk. counted (g.D.DiskState.failures disk) again) (c.take_back-disk.ensures.unsealed not_sealed).0,
    )
