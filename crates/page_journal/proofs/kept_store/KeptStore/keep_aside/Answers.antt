use Rattle.std.proofs.Common.{rules, ◌≡◌, ◌∙◌, sym, ap, subst, length, List, Bool}
use Rattle.page_journal.specs.Crash.{KeepsMarked}
use Rattle.page_journal.specs.Files.{Files}
use Rattle.page_journal.specs.KeptStores.{IsGuarded, KeptStored, old_file_of}
use Rattle.page_journal.specs.declared.seal_state.SealState.{SealState}
use Rattle.page_journal.specs.declared.seal_state.SealState.TheVariants.{Unsealed, Sealed, Stopped}
use Rattle.page_journal.proofs.KeptStoreLemmas.{guarded_stays, flags_may, run_time, same_guard}
use Rattle.std.proofs.lemmas.Result.{err_from_is_err_and}
use Rattle.page_journal.proofs.RefusalLemmas.{passed_on, refused_on}
use Rattle.page_journal.specs.LoggedStores.{DoubtStops}
use Rattle.page_journal.proofs.LogLemmas.{logs_begin, logs_stays, logs_then}
use Rattle.page_journal.proofs.LoggedLemmas.{alone_same, logged_leaves}
use Rattle.page_journal.proofs.kept_store.KeptStore.keep_aside.Goals as goal

pub invariant_of-self-2 : goal.invariant_of-self-2
invariant_of-self-2 g c =
    let d = g.D.DiskState in (
      c.self.invariant.0,
      logged_leaves d (g.met.D.Disk.counts_now) c.self.inside.log c.self.inside.doubt.items c.self.inside.disk c.seal.new.disk (logs_then d c.self.inside.disk c.shape.new.self c.seal.new.disk (logs_stays d c.self.inside.disk c.self.inside.disk c.shape.new.self (logs_begin d c.self.inside.disk (g.met.D.Disk.only_now c.self.inside.disk)) c.shape.ensures.does.0) c.seal.ensures.logs) (c.seal.ensures.calls.2 ∙ c.shape.ensures.does.0.began) c.self.invariant.1,
      subst (λ (s : SealState). DoubtStops s c.self.inside.doubt.items) c.in-Unsealed.is c.self.invariant.2,
      λ after.
          let main = (d.seen c.shape.new.self).main in
          let mid = sym c.seal.ensures.calls.0 ∙ after in
          let whole = c.self.invariant.3 (sym c.shape.ensures.does.0.steady ∙ mid) in
          let was = old_file_of d c.self.inside.disk in
          let unsealed : IsGuarded d was Unsealed c.self.inside.kept.items c.self.inside.disk = subst (λ (s : SealState). IsGuarded d was s c.self.inside.kept.items c.self.inside.disk) c.in-Unsealed.is whole.0 in
          let asked = guarded_stays d was (g.met.D.Disk.counts_now) Unsealed c.self.inside.kept.items c.self.inside.disk c.shape.new.self unsealed c.shape.ensures.does.0 in
          let sealed = c.in_ok-seal.ensures.sealed mid in
          let kept_long : sealed.0.long ≡ c.in_ok-shape.shape.pages = sealed.3 ∙ ap (λ (f : Files). length f.main.pages) c.shape.ensures.does.0.seen ∙ sym c.in_ok-shape.ensures.pages in (
            same_guard d Sealed c.in-Ok.kept.items c.self.inside.disk c.seal.new.disk c.seal.new.disk (c.seal.ensures.calls.2 ∙ c.shape.ensures.does.0.began) (record { so = record { kept = sealed.0; base = main.pages; sealed = sealed.1; flags_kept = flags_may sealed.0 c.in-Ok.kept.items (subst (λ (m : List Bool). KeepsMarked m sealed.0) c.deref.ensures.value sealed.4) (kept_long ∙ sym c.in-Ok.ensures.long); began = sealed.2 ∙ asked.so.seen }; time = run_time d was main c.shape.new.self c.seal.new.disk asked.time asked.so.seen (c.seal.ensures.any_moment mid) }),
            alone_same d c.self.inside.log c.self.inside.disk c.seal.new.disk (c.seal.ensures.calls.2 ∙ c.shape.ensures.does.0.began) whole.1,
          ),
    )

pub returns-in_default-clause-failures : goal.returns-in_default-clause-failures
returns-in_default-clause-failures g c = refused_on (g.D.DiskState.failures c.self.inside.disk) c.self.inside.refusals _ _ _ c.count_up.ensures (ap (λ (s : KeptStored _). g.D.DiskState.failures s.disk) c.self.view_is) (ap (λ (s : KeptStored _). s.refusals) c.self.view_is)

pub returns-in_err-shape-clause-failures : goal.returns-in_err-shape-clause-failures
returns-in_err-shape-clause-failures g c =
    let told = err_from_is_err_and c.from_residual.result c.from_residual.ensures.1 in
    rw (told.1, told.2) (passed_on _ _ c.self.inside.refusals _ _ _ c.in_err-shape.ensures.does.1.failures (ap (λ (s : KeptStored _). g.D.DiskState.failures s.disk) c.self.view_is) (ap (λ (s : KeptStored _). s.refusals) c.self.view_is))

pub returns-then-shape-gt0-clause-failures : goal.returns-then-shape-gt0-clause-failures
returns-then-shape-gt0-clause-failures g c = refused_on (g.D.DiskState.failures c.shape.new.self) c.self.inside.refusals _ _ _ c.count_up-then-shape-gt0.ensures (c.in_ok-shape.ensures.does.1.failures ∙ ap (λ (s : KeptStored _). g.D.DiskState.failures s.disk) c.self.view_is) (ap (λ (s : KeptStored _). s.refusals) c.self.view_is)

pub returns-in_err-seal-clause-failures : goal.returns-in_err-seal-clause-failures
returns-in_err-seal-clause-failures g c =
    let told = err_from_is_err_and c.from_residual-in_err-seal.result c.from_residual-in_err-seal.ensures.1 in
    rw (told.1, told.2) (passed_on _ _ c.self.inside.refusals _ _ _ c.in_err-seal.ensures.calls.1.failures (c.in_ok-shape.ensures.does.1.failures ∙ ap (λ (s : KeptStored _). g.D.DiskState.failures s.disk) c.self.view_is) (ap (λ (s : KeptStored _). s.refusals) c.self.view_is))

pub invariant_of-self-then-shape-gt0 : goal.invariant_of-self-then-shape-gt0
invariant_of-self-then-shape-gt0 g c =
    let d = g.D.DiskState in (
      c.self.invariant.0,
      logged_leaves d (g.met.D.Disk.counts_now) c.self.inside.log c.self.inside.doubt.items c.self.inside.disk c.shape.new.self (logs_stays d c.self.inside.disk c.self.inside.disk c.shape.new.self (logs_begin d c.self.inside.disk (g.met.D.Disk.only_now c.self.inside.disk)) c.shape.ensures.does.0) c.shape.ensures.does.0.began c.self.invariant.1,
      c.self.invariant.2,
      λ after.
          let whole = c.self.invariant.3 (sym c.shape.ensures.does.0.steady ∙ after) in (
            same_guard d c.self.inside.state c.self.inside.kept.items c.self.inside.disk c.shape.new.self c.shape.new.self c.shape.ensures.does.0.began (guarded_stays d (old_file_of d c.self.inside.disk) (g.met.D.Disk.counts_now) c.self.inside.state c.self.inside.kept.items c.self.inside.disk c.shape.new.self whole.0 c.shape.ensures.does.0),
            alone_same d c.self.inside.log c.self.inside.disk c.shape.new.self c.shape.ensures.does.0.began whole.1,
          ),
    )

pub invariant_of-self-in_default-flags_of : goal.invariant_of-self-in_default-flags_of
invariant_of-self-in_default-flags_of g c =
    let d = g.D.DiskState in (
      c.self.invariant.0,
      logged_leaves d (g.met.D.Disk.counts_now) c.self.inside.log c.self.inside.doubt.items c.self.inside.disk c.shape.new.self (logs_stays d c.self.inside.disk c.self.inside.disk c.shape.new.self (logs_begin d c.self.inside.disk (g.met.D.Disk.only_now c.self.inside.disk)) c.shape.ensures.does.0) c.shape.ensures.does.0.began c.self.invariant.1,
      c.self.invariant.2,
      λ after.
          let whole = c.self.invariant.3 (sym c.shape.ensures.does.0.steady ∙ after) in (
            same_guard d c.self.inside.state c.self.inside.kept.items c.self.inside.disk c.shape.new.self c.shape.new.self c.shape.ensures.does.0.began (guarded_stays d (old_file_of d c.self.inside.disk) (g.met.D.Disk.counts_now) c.self.inside.state c.self.inside.kept.items c.self.inside.disk c.shape.new.self whole.0 c.shape.ensures.does.0),
            alone_same d c.self.inside.log c.self.inside.disk c.shape.new.self c.shape.ensures.does.0.began whole.1,
          ),
    )

pub invariant_of-self-in_err-seal : goal.invariant_of-self-in_err-seal
invariant_of-self-in_err-seal g c =
    let d = g.D.DiskState in (
      c.self.invariant.0,
      logged_leaves d (g.met.D.Disk.counts_now) c.self.inside.log c.self.inside.doubt.items c.self.inside.disk c.seal.new.disk (logs_then d c.self.inside.disk c.shape.new.self c.seal.new.disk (logs_stays d c.self.inside.disk c.self.inside.disk c.shape.new.self (logs_begin d c.self.inside.disk (g.met.D.Disk.only_now c.self.inside.disk)) c.shape.ensures.does.0) c.seal.ensures.logs) (c.seal.ensures.calls.2 ∙ c.shape.ensures.does.0.began) c.self.invariant.1,
      tt,
      λ after.
          let main = (d.seen c.shape.new.self).main in
          let mid = sym c.seal.ensures.calls.0 ∙ after in
          let whole = c.self.invariant.3 (sym c.shape.ensures.does.0.steady ∙ mid) in
          let was = old_file_of d c.self.inside.disk in
          let unsealed : IsGuarded d was Unsealed c.self.inside.kept.items c.self.inside.disk = subst (λ (s : SealState). IsGuarded d was s c.self.inside.kept.items c.self.inside.disk) c.in-Unsealed.is whole.0 in
          let asked = guarded_stays d was (g.met.D.Disk.counts_now) Unsealed c.self.inside.kept.items c.self.inside.disk c.shape.new.self unsealed c.shape.ensures.does.0 in (
            same_guard d Stopped c.self.inside.kept.items c.self.inside.disk c.seal.new.disk c.seal.new.disk (c.seal.ensures.calls.2 ∙ c.shape.ensures.does.0.began) (record { so = c.seal.ensures.same ∙ asked.so.seen; time = run_time d was main c.shape.new.self c.seal.new.disk asked.time asked.so.seen (c.seal.ensures.any_moment mid) }),
            alone_same d c.self.inside.log c.self.inside.disk c.seal.new.disk (c.seal.ensures.calls.2 ∙ c.shape.ensures.does.0.began) whole.1,
          ),
    )

pub invariant_of-self-in_err-shape : goal.invariant_of-self-in_err-shape
invariant_of-self-in_err-shape g c =
    let d = g.D.DiskState in (
      c.self.invariant.0,
      logged_leaves d (g.met.D.Disk.counts_now) c.self.inside.log c.self.inside.doubt.items c.self.inside.disk c.shape.new.self (logs_stays d c.self.inside.disk c.self.inside.disk c.shape.new.self (logs_begin d c.self.inside.disk (g.met.D.Disk.only_now c.self.inside.disk)) c.shape.ensures.does.0) c.shape.ensures.does.0.began c.self.invariant.1,
      c.self.invariant.2,
      λ after.
          let whole = c.self.invariant.3 (sym c.shape.ensures.does.0.steady ∙ after) in (
            same_guard d c.self.inside.state c.self.inside.kept.items c.self.inside.disk c.shape.new.self c.shape.new.self c.shape.ensures.does.0.began (guarded_stays d (old_file_of d c.self.inside.disk) (g.met.D.Disk.counts_now) c.self.inside.state c.self.inside.kept.items c.self.inside.disk c.shape.new.self whole.0 c.shape.ensures.does.0),
            alone_same d c.self.inside.log c.self.inside.disk c.shape.new.self c.shape.ensures.does.0.began whole.1,
          ),
    )

pub returns-in_default-clause-keeps : goal.returns-in_default-clause-keeps
returns-in_default-clause-keeps g c = record {
  same = search rules;
  steady = search rules;
  began = search rules;
}

pub returns-in_err-shape-clause-keeps : goal.returns-in_err-shape-clause-keeps
returns-in_err-shape-clause-keeps g c = record {
  same = search rules;
  steady = search rules;
  began = search rules;
}

pub returns-then-shape-gt0-clause-keeps : goal.returns-then-shape-gt0-clause-keeps
returns-then-shape-gt0-clause-keeps g c = record {
  same = search rules;
  steady = search rules;
  began = search rules;
}

pub returns-in_default-flags_of-clause-keeps : goal.returns-in_default-flags_of-clause-keeps
returns-in_default-flags_of-clause-keeps g c = record {
  same = search rules;
  steady = search rules;
  began = search rules;
}

pub returns-in_err-seal-clause-keeps : goal.returns-in_err-seal-clause-keeps
returns-in_err-seal-clause-keeps g c = record {
  same = search rules;
  steady = search rules;
  began = search rules;
}

pub returns-clause-keeps : goal.returns-clause-keeps
returns-clause-keeps g c = record {
  same = search rules;
  steady = search rules;
  began = search rules;
}
