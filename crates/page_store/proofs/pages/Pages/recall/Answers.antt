use Rattle.std.proofs.Common.{◌≡◌, ℕ, List, Option, Some, None, IsSome, IfSome, OnSome, Box, Bor, Global, slice_get, ap, sym, refl, ◌∙◌}
use Rattle.page_store.specs.PagesView.{PagesView}
use Rattle.page_store.specs.PageMap.{at}
use Rattle.page_store.specs.Overlaid.{slots_of}
use Rattle.page_store.proofs.NewestPageLemmas.{from_store, stored_in_use}
use Rattle.page_store.proofs.pages.Pages.recall.Given as given
use Rattle.page_store.proofs.pages.Pages.recall.Goals as goal
use Rattle.page_store.proofs.pages.Pages.recall.Goals.{In-None}

some_or_none : (o : Option (List ℕ)) → (o ≡ None → ⊥) → IsSome o
some_or_none None never = absurd (never refl)
some_or_none (Some page) never = refl

on_some : {X P : Type 0} (o : Option X) → P → OnSome o P
on_some None holds = tt
on_some (Some x) holds = holds

shown : (result : Option (Bor (List ℕ))) (slots : List (Option (List ℕ))) (stored : List (List ℕ)) (n : ℕ) (newest : Option (List ℕ)) → ((page : List ℕ) → at slots n ≡ Some page → slice_get stored n ≡ Some page) → newest ≡ slice_get stored n → IfSome result (λ page. at slots n ≡ Some page.now) → IfSome result (λ page. newest ≡ Some page.now)
shown None slots stored n newest kept is there = tt
shown (Some page) slots stored n newest kept is there = is ∙ kept page.now there

-- the page is in use, and in the store
module _ (g : given.Over) (c : In-None g) where
  no_slot : None ≡ at (slots_of c.self.inside.changed.items) c.args.n
  no_slot = c.in-None.ensures ∙ ap (λ (xs : List (Option (Box (List ℕ) Global))). at (slots_of xs) c.args.n) c.deref.ensures.value

  stored : at c.args.self.now.pages c.args.n ≡ slice_get (g.S.StoreState.pages c.self.inside.store) c.args.n
  stored = ap (λ (v : PagesView). at v.pages c.args.n) (sym c.self.view_is) ∙ from_store _ _ _ _ c.args.n (c.is_in_use.ensures.0 c.if-not-is_in_use.false) no_slot

pub returns-in-None-clause-page : goal.returns-in-None-clause-page
returns-in-None-clause-page g c = λ steady.
    let place = (goal.at.returns-in-None-clause-page g c).In-None in
    shown c.get.result c.self.inside.kept.slots (g.S.StoreState.pages c.self.inside.store) c.args.n (at c.args.self.now.pages c.args.n)
    (c.self.invariant.1 (ap (λ (v : PagesView). v.steady) c.self.view_is ∙ steady) c.args.n) (stored g place) c.get.ensures.there

pub returns-in-None-clause-in_use : goal.returns-in-None-clause-in_use
returns-in-None-clause-in_use g c =
    let place = (goal.at.returns-in-None-clause-in_use g c).In-None in
    on_some c.get.result (some_or_none (at c.args.self.now.pages c.args.n) (λ none. stored_in_use (g.S.StoreState.pages c.self.inside.store) _ _ _ c.args.n _ c.self.invariant.0 (c.is_in_use.ensures.0 c.if-not-is_in_use.false) (no_slot g place) (sym (stored g place) ∙ none)))
