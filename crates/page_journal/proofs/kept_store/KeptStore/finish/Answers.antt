use Rattle.std.proofs.Common.{rules, ◌∙◌, ap, inl, subst, sym, OnOk}
use Rattle.page_journal.specs.Crash.{StandsForEither}
use Rattle.page_journal.specs.Files.{Files}
use Rattle.page_journal.specs.LoggedStores.{BeganAlone, FindsAll, FindsNow, LeavesWithCommits, commits_in}
use Rattle.page_journal.specs.KeptStores.{KeptStored, old_file_of}
use Rattle.page_journal.proofs.KeptStoreLemmas.{finish_time}
use Rattle.page_journal.proofs.LoggedLemmas.{all_after, all_now, finds_after, finds_now, finish_commits, on_every, sealed_sure, unsealed_sure}
use Rattle.page_journal.proofs.kept_store.KeptStore.finish.Goals as goal
use Rattle.page_journal.proofs.kept_store.KeptStore.finish.Goals.{in-Unsealed, in-Sealed, in-Stopped}

pub returns-clause-any_moment : goal.returns-clause-any_moment
returns-clause-any_moment g c = λ st f left.
    let d = g.D.DiskState in
    let steady = ap (λ (s : KeptStored _). d.steady s.disk) c.self.view_is ∙ st in
    let i = (c.self.invariant.3 steady).0 in
    let was = old_file_of d c.self.inside.disk in
    subst (λ (s : KeptStored _). StandsForEither (old_file_of d s.disk) (d.seen s.disk).main f) c.self.view_is
    (elim c.match-state.branch [
      | in-Unsealed w ↦ inl (i.time f (subst (λ e. d.left_since e 0 f) w.disk-is left))
      | in-Sealed w ↦ finish_time d was c.self.inside.state c.self.inside.kept.items c.self.inside.disk w.commit-done.new.disk i w.in-Sealed.is w.commit-done.ensures.any_moment f (subst (λ e. d.left_since e 0 f) w.disk-is left)
      | in-Stopped w ↦ inl (i.time f (subst (λ e. d.left_since e 0 f) w.disk-is left))
    ])

pub returns-clause-commits : goal.returns-clause-commits
returns-clause-commits g c = λ st f left.
    let d = g.D.DiskState in
    let counts = g.met.D.Disk.counts_now in
    let steady = ap (λ (s : KeptStored _). d.steady s.disk) c.self.view_is ∙ st in
    let i = (c.self.invariant.3 steady).0 in
    let logged = c.self.invariant.1 (c.self.invariant.3 steady).1 in
    let was = old_file_of d c.self.inside.disk in
    subst (λ (s : KeptStored _). LeavesWithCommits s.log (d.began s.disk) (commits_in s.log (d.seen s.disk)) s.doubt (old_file_of d s.disk) (d.seen s.disk).main f) c.self.view_is
    (elim c.match-state.branch [
      | in-Unsealed w ↦ let before = subst (λ e. d.left_since e 0 f) w.disk-is left in inl (i.time f before, logged.time f before)
      | in-Sealed w ↦ finish_commits d counts c.self.inside.log c.self.inside.doubt.items was (d.seen c.self.inside.disk).main c.self.inside.disk w.commit-done.new.disk (sealed_sure c.self.inside.state c.self.inside.doubt.items w.in-Sealed.is c.self.invariant.2) w.commit-done.ensures.logs logged i.time
          (finish_time d was c.self.inside.state c.self.inside.kept.items c.self.inside.disk w.commit-done.new.disk i w.in-Sealed.is w.commit-done.ensures.any_moment)
          f (subst (λ e. d.left_since e 0 f) w.disk-is left)
      | in-Stopped w ↦ let before = subst (λ e. d.left_since e 0 f) w.disk-is left in inl (i.time f before, logged.time f before)
    ])

pub returns-clause-all : goal.returns-clause-all
returns-clause-all g c = λ alone.
    let d = g.D.DiskState in
    let counts = g.met.D.Disk.counts_now in
    let logged = c.self.invariant.1 (subst (λ (s : KeptStored _). BeganAlone d s.log s.disk) (sym c.self.view_is) alone) in
    subst (λ (s : KeptStored _). OnOk c.match-state.done ((f : Files) → d.may_leave c.match-state.disk f → FindsAll s.log (d.began s.disk) (commits_in s.log (d.seen s.disk)) f)) c.self.view_is
    (elim c.match-state.branch [
      | in-Unsealed w ↦ on_every c.match-state.done (λ f left. finds_now d counts c.self.inside.log c.self.inside.doubt.items c.self.inside.disk (unsealed_sure c.self.inside.state c.self.inside.doubt.items w.in-Unsealed.is c.self.invariant.2) logged f (subst (λ e. d.may_leave e f) w.disk-is left))
      | in-Sealed w ↦ on_every c.match-state.done (λ f left. finds_after d counts c.self.inside.log c.self.inside.doubt.items c.self.inside.disk w.commit-done.new.disk (sealed_sure c.self.inside.state c.self.inside.doubt.items w.in-Sealed.is c.self.invariant.2) w.commit-done.ensures.logs logged f (subst (λ e. d.may_leave e f) w.disk-is left))
      | in-Stopped w ↦ subst (λ r. OnOk r ((f : Files) → d.may_leave c.match-state.disk f → FindsAll c.self.inside.log (d.began c.self.inside.disk) (commits_in c.self.inside.log (d.seen c.self.inside.disk)) f)) (sym w.done-is) tt
    ])

pub returns-clause-now : goal.returns-clause-now
returns-clause-now g c = λ alone f left.
    let d = g.D.DiskState in
    let counts = g.met.D.Disk.counts_now in
    let logged = c.self.invariant.1 (subst (λ (s : KeptStored _). BeganAlone d s.log s.disk) (sym c.self.view_is) alone) in
    subst (λ (s : KeptStored _). FindsNow s.log (d.began s.disk) (commits_in s.log (d.seen s.disk)) s.doubt f) c.self.view_is
    (elim c.match-state.branch [
      | in-Unsealed w ↦ all_now d counts c.self.inside.log c.self.inside.doubt.items c.self.inside.disk logged f (subst (λ e. d.may_leave e f) w.disk-is left)
      | in-Sealed w ↦ all_after d counts c.self.inside.log c.self.inside.doubt.items c.self.inside.disk w.commit-done.new.disk w.commit-done.ensures.logs logged f (subst (λ e. d.may_leave e f) w.disk-is left)
      | in-Stopped w ↦ all_now d counts c.self.inside.log c.self.inside.doubt.items c.self.inside.disk logged f (subst (λ e. d.may_leave e f) w.disk-is left)
    ])

pub returns-clause-keeps : goal.returns-clause-keeps
returns-clause-keeps g c = record {
  same = search rules;
  steady = search rules;
  began = search rules;
}

pub returns-clause-finished : goal.returns-clause-finished
returns-clause-finished g c = record {
  unsealed = search rules;
  moments = search rules;
  stopped = search rules;
  failures = search rules;
  no_memory = search rules;
}
