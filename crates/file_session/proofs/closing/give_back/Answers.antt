use Rattle.std.proofs.Common.{◌∙◌, Result, ap, subst}
use Rattle.page_store.specs.Opening.{Opening}
use Rattle.rec_types.specs.Table.{counted}
use Rattle.page_journal.specs.Recovery.{is_recovery_device}
use Rattle.page_journal.specs.declared.recovery_fault.RecoveryFault.{RecoveryFault}
use Rattle.page_journal.specs.LoggedStores.{commits_in}
use Rattle.file_session.specs.Beside.{FindsEach, LeavesOpening}
use Rattle.file_session.proofs.ClosingCountLemmas.{unrefused, unsealed}
use Rattle.file_session.proofs.SettlingLemmas.{each_found, some_found}
use Rattle.file_session.proofs.closing.give_back.Goals as goal

pub returns-clause-device : goal.returns-clause-device
returns-clause-device g c = λ none.
    let store = c.abandon.result in
    let same = unrefused store.state store.kept (g.D.DiskState.failures store.disk) store.refusals c.args.table.pages.failures c.args.table.pages.guard c.abandon.ensures.guard none c.abandon.ensures.failures in (
      is_recovery_device c.take_back-disk.result.1,
      c.take_back-disk.ensures.leaves.failures ∙ ap (λ n. counted n (is_recovery_device c.take_back-disk.result.1)) same,
      λ not_sealed. ap (λ (r : Result (Unit {0}) RecoveryFault). is_recovery_device r) (c.take_back-disk.ensures.unsealed (unsealed store.state store.kept store.refusals c.args.table.pages.guard c.abandon.ensures.guard not_sealed)).1,
    )

pub returns-clause-commits : goal.returns-clause-commits
returns-clause-commits g c steady left since =
    let store = c.abandon.result in
    let kept = c.abandon.ensures.steady ∙ steady in
    let d = g.D.DiskState in
    subst (λ (o : Opening). LeavesOpening o left) c.abandon.ensures.opening (
      c.take_back-disk.ensures.any_moment kept left since,
      some_found store.log (d.began store.disk) (commits_in store.log (d.seen store.disk)) store.doubt left (c.take_back-disk.ensures.commits (c.take_back-disk.ensures.alone kept) left since),
    )

pub returns-clause-lasts : goal.returns-clause-lasts
returns-clause-lasts g c steady left now =
    let store = c.abandon.result in
    let d = g.D.DiskState in
    subst (λ (o : Opening). FindsEach o.logged o.log o.commits o.doubt left) c.abandon.ensures.opening
    (each_found store.log (d.began store.disk) (commits_in store.log (d.seen store.disk)) store.doubt left (c.take_back-disk.ensures.now (c.take_back-disk.ensures.alone (c.abandon.ensures.steady ∙ steady)) left now))
