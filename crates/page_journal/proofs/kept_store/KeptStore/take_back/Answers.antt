use Rattle.std.proofs.Common.{rules, ◌≡◌, ◌∙◌, ap, sym, subst, OnOk}
use Rattle.page_journal.specs.Crash.{FilesStandFor}
use Rattle.page_journal.specs.LoggedStores.{BeganAlone, FindsNow, MayFind, commits_in}
use Rattle.page_journal.specs.KeptStores.{KeptStored, old_file_of}
use Rattle.page_journal.proofs.KeptStoreLemmas.{never_foreign, unsealed_main, taken_old, taken_time}
use Rattle.page_journal.proofs.LoggedLemmas.{all_after, all_now, taken_commits}
use Rattle.page_journal.proofs.kept_store.KeptStore.take_back.Goals as goal
use Rattle.page_journal.proofs.kept_store.KeptStore.take_back.Goals.{in_default, in-Sealed}

pub returns-clause-old : goal.returns-clause-old
returns-clause-old g c = λ st.
    let d = g.D.DiskState in
    let steady = ap (λ (s : KeptStored _). d.steady s.disk) c.self.view_is ∙ st in
    let i = (c.self.invariant.3 steady).0 in
    let was = old_file_of d c.self.inside.disk in
    subst (λ (s : KeptStored _). OnOk c.match-state.done ((d.seen c.match-state.disk).main ≡ old_file_of d s.disk)) c.self.view_is
    (elim c.match-state.branch [
      | in-Sealed w ↦ subst (λ r. OnOk r ((d.seen c.match-state.disk).main ≡ was)) (sym w.done-is) (subst (λ e. OnOk w.recover-done.result ((d.seen e).main ≡ was)) (sym w.disk-is) (taken_old d was c.self.inside.state c.self.inside.kept.items c.self.inside.disk w.recover-done.new.disk w.recover-done.result i w.in-Sealed.is (w.recover-done.ensures.taken_back steady)))
      | in_default w ↦ subst (λ r. OnOk r ((d.seen c.match-state.disk).main ≡ was)) (sym w.done-is) (ap (λ e. (d.seen e).main) w.disk-is ∙ unsealed_main d was c.self.inside.state c.self.inside.kept.items c.self.inside.disk i w.in_default.not-Sealed)
    ])

pub returns-clause-any_moment : goal.returns-clause-any_moment
returns-clause-any_moment g c = λ st f left.
    let d = g.D.DiskState in
    let steady = ap (λ (s : KeptStored _). d.steady s.disk) c.self.view_is ∙ st in
    let i = (c.self.invariant.3 steady).0 in
    let was = old_file_of d c.self.inside.disk in
    subst (λ (s : KeptStored _). FilesStandFor (old_file_of d s.disk) f) c.self.view_is
    (elim c.match-state.branch [
      | in-Sealed w ↦ taken_time d was c.self.inside.state c.self.inside.kept.items c.self.inside.disk w.recover-done.new.disk i w.in-Sealed.is (w.recover-done.ensures.taken_back_at_any_moment steady) f (subst (λ e. d.left_since e 0 f) w.disk-is left)
      | in_default w ↦ i.time f (subst (λ e. d.left_since e 0 f) w.disk-is left)
    ])

pub returns-clause-fault : goal.returns-clause-fault
returns-clause-fault g c = λ st bad.
    let d = g.D.DiskState in
    let steady = ap (λ (s : KeptStored _). d.steady s.disk) c.self.view_is ∙ st in
    let i = (c.self.invariant.3 steady).0 in
    let was = old_file_of d c.self.inside.disk in
    elim c.match-state.branch [
      | in-Sealed w ↦ never_foreign d was c.self.inside.state c.self.inside.kept.items c.self.inside.disk i w.in-Sealed.is (w.recover-done.ensures.bad_journal steady (sym w.done-is ∙ bad))
      | in_default w ↦ absurd (cc)
    ]

pub returns-clause-commits : goal.returns-clause-commits
returns-clause-commits g c = λ alone f left.
    let d = g.D.DiskState in
    let logged = c.self.invariant.1 (subst (λ (s : KeptStored _). BeganAlone d s.log s.disk) (sym c.self.view_is) alone) in
    subst (λ (s : KeptStored _). MayFind s.log (d.began s.disk) (commits_in s.log (d.seen s.disk)) s.doubt f) c.self.view_is
    (elim c.match-state.branch [
      | in-Sealed w ↦ taken_commits d (g.met.D.Disk.counts_now) c.self.inside.log c.self.inside.doubt.items c.self.inside.disk w.recover-done.new.disk w.recover-done.ensures.logs logged f (subst (λ e. d.left_since e 0 f) w.disk-is left)
      | in_default w ↦ logged.time f (subst (λ e. d.left_since e 0 f) w.disk-is left)
    ])

pub returns-clause-now : goal.returns-clause-now
returns-clause-now g c = λ alone f left.
    let d = g.D.DiskState in
    let counts = g.met.D.Disk.counts_now in
    let logged = c.self.invariant.1 (subst (λ (s : KeptStored _). BeganAlone d s.log s.disk) (sym c.self.view_is) alone) in
    subst (λ (s : KeptStored _). FindsNow s.log (d.began s.disk) (commits_in s.log (d.seen s.disk)) s.doubt f) c.self.view_is
    (elim c.match-state.branch [
      | in-Sealed w ↦ all_after d counts c.self.inside.log c.self.inside.doubt.items c.self.inside.disk w.recover-done.new.disk w.recover-done.ensures.logs logged f (subst (λ e. d.may_leave e f) w.disk-is left)
      | in_default w ↦ all_now d counts c.self.inside.log c.self.inside.doubt.items c.self.inside.disk logged f (subst (λ e. d.may_leave e f) w.disk-is left)
    ])

pub returns-clause-leaves : goal.returns-clause-leaves
returns-clause-leaves g c = record {
  steady = search rules;
  began = search rules;
  failures = search rules;
}
