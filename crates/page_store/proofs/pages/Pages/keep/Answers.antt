use Rattle.std.proofs.Common.{◌≡◌, IsSome, length, slice_get, Some, ap, sym, subst, ◌∙◌, ⊎_elim, arith}
use Rattle.page_store.specs.PagesView.{PagesView, is_in_memory}
use Rattle.page_store.specs.PageMap.{at}
use Rattle.page_store.specs.Overlaid.{slots_of}
use Rattle.page_store.proofs.NewestPageLemmas.{length-pages_of}
use Rattle.page_store.proofs.KeptPageLemmas.{below_count}
use Rattle.page_store.proofs.InMemoryLemmas.{stored_elsewhere}
use Rattle.page_store.proofs.pages.Pages.keep.Given as given
use Rattle.page_store.proofs.pages.Pages.keep.Goals as goal
use Rattle.page_store.proofs.pages.Pages.keep.Goals.{After-put}

-- the page is the store's
module _ (g : given.Over) (c : After-put g) where
  stored : slice_get (g.S.StoreState.pages c.self.inside.store) c.args.n ≡ at c.args.self.now.pages c.args.n
  stored =
      ap (λ (v : PagesView). slice_get v.stored c.args.n) c.self.view_is
      ∙ subst (λ (v : PagesView). slice_get v.stored c.args.n ≡ at v.pages c.args.n) c.self.view_is
      (stored_elsewhere (g.S.StoreState.pages c.self.inside.store) (slots_of c.self.inside.changed.items) c.self.inside.free.keys c.self.inside.count c.args.n
      (subst (λ (v : PagesView). IsSome (at v.pages c.args.n)) (sym c.self.view_is) c.requires.in_use)
      (ap (λ (v : PagesView). is_in_memory v c.args.n) c.self.view_is ∙ c.requires.unchanged))

pub put-requires-clause-number : goal.put-requires-clause-number
put-requires-clause-number g c =
    let below = below_count c.args.self.now.pages c.args.n c.requires.in_use in
    let long = ap (λ (v : PagesView). length v.pages) (sym c.self.view_is) ∙ length-pages_of (g.S.StoreState.pages c.self.inside.store) (slots_of c.self.inside.changed.items) c.self.inside.free.keys c.self.inside.count in
    omega arith

pub invariant_of-self : goal.invariant_of-self
invariant_of-self g c = (
  c.self.invariant.0,
  λ steady n page is.
      ⊎_elim (λ was. c.self.invariant.1 steady n page was)
      (λ new. ap (slice_get (g.S.StoreState.pages c.self.inside.store)) new.0 ∙ stored g (goal.at.invariant_of-self g c).After-put ∙ c.requires.page (sym (ap (λ (v : PagesView). v.steady) c.self.view_is) ∙ steady) ∙ ap Some (sym new.1))
      (c.put.ensures n page is),
)
