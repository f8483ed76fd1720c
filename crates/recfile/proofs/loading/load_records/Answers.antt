use Rattle.std.proofs.Common.{⊎_elim, inl, inr, refl, sym, subst}
use Rattle.recfile.specs.Filling.{CanFill}
use Rattle.recfile.proofs.loading.load_records.Goals as goal

pub returns-in-Some : goal.returns-in-Some
returns-in-Some g c =
    inr (c.deref.result.now, ⊎_elim (λ unfound. inl unfound) (λ filled. inr (inl filled)) c.in-Some.ensures.filled)

pub returns-in-None : goal.returns-in-None
returns-in-None g c =
    ⊎_elim (λ unread. inl unread)
    (λ ran. inr (c.args.loaded.now.records.items, inr (inr (λ can. c.in-None.ensures.looked refl (subst (CanFill c.args.limits) (sym c.deref.ensures.value) can), ran))))
    c.run_load.ensures
