use Rattle.std.proofs.Common.{rules, ◌≡◌, ℕ, is_ok, true, false, is_some, List, Option, Some, None, IsSome, Box, Global, sym, ap, ◌∙◌, refl, subst, slice_get}
use Rattle.std.proofs.lemmas.Bool.{false≢true}
use Rattle.rec_types.specs.Table.{counted}
use Rattle.page_store.specs.PagesView.{PagesView, is_in_memory}
use Rattle.page_store.specs.PageMap.{at}
use Rattle.page_store.specs.Overlaid.{slots_of}
use Rattle.page_store.proofs.InMemoryLemmas.{memory_used, slot_in_memory, unused_unread, memory_unread, others_read, none_not_some}
use Rattle.page_store.proofs.NewestPageLemmas.{outside, from_slot, from_store, stored_in_use}
use Rattle.page_store.proofs.pages.Pages.fetch.Given as given
use Rattle.page_store.proofs.pages.Pages.fetch.Goals as goal
use Rattle.page_store.proofs.pages.Pages.fetch.Goals.{Then-not-is_in_use, After-to-1, After-read-arg-2-1}

in_view : (v : PagesView) (pages : List (Option (List ℕ))) (n : ℕ) (x : Option (List ℕ)) → pages ≡ v.pages → at pages n ≡ x → at v.pages n ≡ x
in_view v pages n x same is = ap (λ (ps : List (Option (List ℕ))). at ps n) (sym same) ∙ is

some_or_none : (o : Option (List ℕ)) → (o ≡ None → ⊥) → IsSome o
some_or_none None never = absurd (never refl)
some_or_none (Some page) never = refl

-- the page isn't in use
module _ (g : given.Over) (c : Then-not-is_in_use g) where
  gone : at c.args.self.now.pages c.args.n ≡ None
  gone = in_view c.args.self.now _ c.args.n None (ap (λ (v : PagesView). v.pages) c.self.view_is) (outside _ _ _ _ c.args.n (λ h. false≢true (sym c.if-not-is_in_use.true ∙ c.is_in_use.ensures.1 h)))

-- the page is in memory
module _ (g : given.Over) (c : After-to-1 g) where
  slot : Some c.in-Some.page.now ≡ at (slots_of c.self.inside.changed.items) c.args.n
  slot = c.in-Some.ensures ∙ ap (λ (xs : List (Option (Box (List ℕ) Global))). at (slots_of xs) c.args.n) c.deref.ensures.value

  newest : at c.args.self.now.pages c.args.n ≡ Some c.in-Some.page.now
  newest = in_view c.args.self.now _ c.args.n _ (ap (λ (v : PagesView). v.pages) c.self.view_is) (from_slot _ _ _ _ c.args.n c.in-Some.page.now (c.is_in_use.ensures.0 c.if-not-is_in_use.false) slot)

-- the page is in the store
module _ (g : given.Over) (c : After-read-arg-2-1 g) where
  no_slot : None ≡ at (slots_of c.self.inside.changed.items) c.args.n
  no_slot = c.in_default.ensures ∙ ap (λ (xs : List (Option (Box (List ℕ) Global))). at (slots_of xs) c.args.n) c.deref.ensures.value

  stored : at c.args.self.now.pages c.args.n ≡ slice_get (g.S.StoreState.pages c.self.inside.store) c.args.n
  stored = in_view c.args.self.now _ c.args.n _ (ap (λ (v : PagesView). v.pages) c.self.view_is) (from_store _ _ _ _ c.args.n (c.is_in_use.ensures.0 c.if-not-is_in_use.false) no_slot)

  some : at c.args.self.now.pages c.args.n ≡ None → ⊥
  some none = stored_in_use (g.S.StoreState.pages c.self.inside.store) _ _ _ c.args.n _ c.self.invariant.0 (c.is_in_use.ensures.0 c.if-not-is_in_use.false) no_slot (sym stored ∙ none)

  not_in_memory : is_in_memory c.args.self.now c.args.n ≡ false
  not_in_memory = ap (λ (v : PagesView). is_in_memory v c.args.n) (sym c.self.view_is) ∙ slot_in_memory (slots_of c.self.inside.changed.items) c.self.inside.free.keys c.self.inside.count c.args.n (c.is_in_use.ensures.0 c.if-not-is_in_use.false) ∙ ap is_some (sym no_slot)

pub returns-then-not-is_in_use-clause-out_of_range : goal.returns-then-not-is_in_use-clause-out_of_range
returns-then-not-is_in_use-clause-out_of_range g c = (λ _. gone g (goal.at.returns-then-not-is_in_use-clause-out_of_range g c).Then-not-is_in_use, λ _. refl)

pub returns-then-not-is_in_use-clause-from_memory : goal.returns-then-not-is_in_use-clause-from_memory
returns-then-not-is_in_use-clause-from_memory g c = λ here.
    let used = memory_used (g.S.StoreState.pages c.self.inside.store) (slots_of c.self.inside.changed.items) c.self.inside.free.keys c.self.inside.count c.args.n (ap (λ (v : PagesView). is_in_memory v c.args.n) c.self.view_is ∙ here) in
    none_not_some _ (gone g (goal.at.returns-then-not-is_in_use-clause-from_memory g c).Then-not-is_in_use) (subst (λ (v : PagesView). IsSome (at v.pages c.args.n)) c.self.view_is used)

pub returns-then-not-is_in_use-clause-reads : goal.returns-then-not-is_in_use-clause-reads
returns-then-not-is_in_use-clause-reads g c =
    let none = gone g (goal.at.returns-then-not-is_in_use-clause-reads g c).Then-not-is_in_use in
    record {
      reads = ap (counted c.args.self.now.reads) (sym (unused_unread c.args.self.now c.args.n none));
      unstaged = λ _ some. none_not_some _ none some;
    }

pub returns-in-Some-clause-page : goal.returns-in-Some-clause-page
returns-in-Some-clause-page g c = λ _. newest g (goal.at.returns-in-Some-clause-page g c).After-to-1

pub returns-in-Some-clause-out_of_range : goal.returns-in-Some-clause-out_of_range
returns-in-Some-clause-out_of_range g c =
    let there = newest g (goal.at.returns-in-Some-clause-out_of_range g c).After-to-1 in
    (λ other. absurd (false≢true (ap is_ok (sym other))), λ gone. none_not_some _ gone (ap is_some there))

pub returns-in-Some-clause-nothing : goal.returns-in-Some-clause-nothing
returns-in-Some-clause-nothing g c = λ gone. none_not_some _ gone (ap is_some (newest g (goal.at.returns-in-Some-clause-nothing g c).After-to-1))

pub returns-in-Some-clause-from_memory : goal.returns-in-Some-clause-from_memory
returns-in-Some-clause-from_memory g c = λ _. (refl, refl, newest g (goal.at.returns-in-Some-clause-from_memory g c).After-to-1)

pub returns-in-Some-clause-reads : goal.returns-in-Some-clause-reads
returns-in-Some-clause-reads g c =
    let here : is_in_memory c.args.self.now c.args.n ≡ true = ap (λ (v : PagesView). is_in_memory v c.args.n) (sym c.self.view_is) ∙ slot_in_memory (slots_of c.self.inside.changed.items) c.self.inside.free.keys c.self.inside.count c.args.n (c.is_in_use.ensures.0 c.if-not-is_in_use.false) ∙ ap is_some (sym (slot g (goal.at.returns-in-Some-clause-reads g c).After-to-1)) in
    record {
      reads = ap (counted c.args.self.now.reads) (sym (memory_unread c.args.self.now c.args.n here));
      unstaged = search rules;
    }

pub returns-clause-page : goal.returns-clause-page
returns-clause-page g c = λ steady.
    let there = stored g (goal.at.returns-clause-page g c).After-read-arg-2-1 in
    let read = c.read.ensures.page (ap (λ (v : PagesView). v.steady) c.self.view_is ∙ steady) in
    search rules

pub returns-clause-out_of_range : goal.returns-clause-out_of_range
returns-clause-out_of_range g c =
    let never = some g (goal.at.returns-clause-out_of_range g c).After-read-arg-2-1 in
    (λ other. search rules, λ gone. absurd (never gone))

pub returns-clause-nothing : goal.returns-clause-nothing
returns-clause-nothing g c = λ gone. absurd (some g (goal.at.returns-clause-nothing g c).After-read-arg-2-1 gone)

pub returns-clause-from_memory : goal.returns-clause-from_memory
returns-clause-from_memory g c = λ here. absurd (false≢true (sym (not_in_memory g (goal.at.returns-clause-from_memory g c).After-read-arg-2-1) ∙ here))

pub returns-clause-reads : goal.returns-clause-reads
returns-clause-reads g c =
    let place = (goal.at.returns-clause-reads g c).After-read-arg-2-1 in
    let used = some_or_none (at c.args.self.now.pages c.args.n) (some g place) in
    let counts = c.read.ensures.leaves.reads ∙ ap (λ (v : PagesView). counted v.reads true) c.self.view_is in
    record {
      reads = counts ∙ ap (counted c.args.self.now.reads) (sym (others_read c.args.self.now c.args.n used (not_in_memory g place)));
      unstaged = λ _ _. counts;
    }
