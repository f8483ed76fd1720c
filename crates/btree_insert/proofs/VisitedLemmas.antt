-- Pages that were visited on the way down.
use Rattle.std.proofs.Common.{◌≡◌, ℕ, Bool, false, ◌||◌, eqb, List, [], ◌∷◌, ◌++◌, ap, ◌∙◌, subst}
use Rattle.std.specs.List.{list_any}
use Rattle.std.proofs.lemmas.List.Folds.{list_any-append}
use Rattle.std.proofs.lemmas.Bool.Decides.{nat_tests}
use Rattle.std.proofs.Common.{arith}
use Rattle.page_store.proofs.Candidates.{candidate_is_free, candidate_ascends}
use Rattle.page_store.specs.PageMap.{at}
use Rattle.page_store.specs.FreeNumbers.{candidate}
use Rattle.std.proofs.Common.{Option}
use Rattle.btree_node.specs.Lists.{Each}
use Rattle.btree_insert.specs.PageTrees.{IsIn, Apart}
use Rattle.btree_insert.proofs.PagesAroundLemmas.{IsFree}
use Rattle.btree_insert.proofs.Membership.{Apart-left, Apart-right, each_in, in_each, in_left, in_right}

-- none of the pages was visited
abbrev pub Unvisited : List ℕ → List ℕ → Type 0
Unvisited visited us = Each (λ u. list_any (λ m. eqb m u) visited ≡ false) us

one_more : (visited : List ℕ) (p u : ℕ) → list_any (λ m. eqb m u) visited ≡ false → (u ≡ p → ⊥) → list_any (λ m. eqb m u) (visited ++ p ∷ []) ≡ false
one_more visited p u unvisited other =
    let differ : eqb p u ≡ false = grind (arith, nat_tests) in
    list_any-append (λ m. eqb m u) visited (p ∷ []) ∙ ap (λ (b : Bool). b || list_any (λ m. eqb m u) (p ∷ [])) unvisited ∙ ap (λ (b : Bool). b || false) differ

-- below a page that was visited now, no page was visited
pub unvisited_below : (visited : List ℕ) (p : ℕ) (us upre mine upost : List ℕ) → us ≡ p ∷ (upre ++ (mine ++ upost)) → Apart us → Unvisited visited us → Unvisited (visited ++ p ∷ []) mine
unvisited_below visited p us upre mine upost us_is apart unvisited =
    let apart2 = subst Apart us_is apart in
    let unvisited2 = subst (Unvisited visited) us_is unvisited in
    each_in (λ u. list_any (λ m. eqb m u) (visited ++ p ∷ []) ≡ false) mine (λ u is.
    let inside = in_right u upre (mine ++ upost) (in_left u mine upost is) in
    one_more visited p u (in_each (λ x. list_any (λ m. eqb m x) visited ≡ false) (upre ++ (mine ++ upost)) u unvisited2.1 inside) (λ e. apart2.0 (subst (λ (x : ℕ). IsIn x (upre ++ (mine ++ upost))) e inside)))

-- the pages of a son differ
pub apart_below : (p : ℕ) (us upre mine upost : List ℕ) → us ≡ p ∷ (upre ++ (mine ++ upost)) → Apart us → Apart mine
apart_below p us upre mine upost us_is apart =
    Apart-left mine upost (Apart-right upre (mine ++ upost) (subst Apart us_is apart).1)

-- the numbers that an edit takes are free and differ
pub candidates_free : (pages : List (Option (List ℕ))) → IsFree (at pages) (candidate pages)
candidates_free pages = record {
  free = candidate_is_free pages;
  apart = λ i j less same. let up = candidate_ascends pages i j less in absurd (omega (arith, up, same));
}

-- where nothing was visited, all is unvisited
pub unvisited_none : (visited us : List ℕ) → visited ≡ [] → Unvisited visited us
unvisited_none visited us none = each_in (λ u. list_any (λ m. eqb m u) visited ≡ false) us (λ u _. ap (λ (xs : List ℕ). list_any (λ m. eqb m u) xs) none)
