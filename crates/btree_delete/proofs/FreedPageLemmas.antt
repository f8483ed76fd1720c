-- The pages of a file without those that are free.
use Rattle.std.proofs.Common.{◌≡◌, ℕ, zero, suc, ◌<◌, ◌≤◌, Bool, true, false, cond, ◌||◌, ◌&&◌, not, eqb, Option, Some, None, IsSome, List, [], ◌∷◌, length, slice_get, refl, ap, sym, ◌∙◌, subst, arith, Result, Ok, Err, OnOk}
use Rattle.std.proofs.lemmas.Bool.Decides.{nat_tests}
use Rattle.std.specs.List.{AllByRecursion}
use Rattle.page_store.specs.PageMap.{PageMap, at, free_all, after, is_freed, is_written}
use Rattle.page_store.specs.CanStage.{CanStage}
use Rattle.page_store.specs.FreeNumbers.{count_after}
use Rattle.page_store.specs.PagesView.{PagesView, is_in_memory}
use Rattle.btree_insert.specs.Spelt.{AreSpeltIn}
use Rattle.btree_delete.specs.Opening.{Frees}

-- what holds of each number in a list holds of all
pub each_freed : (P : ℕ → Type 0) (xs : List ℕ) → ((n : ℕ) → is_freed xs n ≡ true → P n) → AllByRecursion P xs
each_freed P [] all = tt
each_freed P (x ∷ xs) all = (all x (here (eqb x x) (grind (arith, nat_tests))), each_freed P xs (λ n is. all n (later (eqb n x) (is_freed xs n) is)))
  where
    here : (b : Bool) → b ≡ true → (b || is_freed xs x) ≡ true
    here true is = refl
    here false is = absurd (cc)

    later : (a b : Bool) → b ≡ true → (a || b) ≡ true
    later true b is = refl
    later false b is = is

-- pages of which some are freed
pub freed_at : (pages : PageMap) (fs : List ℕ) (q : ℕ) → free_all pages fs q ≡ cond (is_freed fs q) None (pages q)
freed_at pages [] q = refl
freed_at pages (f ∷ fs) q = at (eqb q f) (freed_at pages fs q)
  where
    at : (b : Bool) → free_all pages fs q ≡ cond (is_freed fs q) None (pages q) → cond b None (free_all pages fs q) ≡ cond (b || is_freed fs q) None (pages q)
    at true is = refl
    at false is = is

-- two tests that agree
pub agree : (a b : Bool) → (a ≡ true → b ≡ true) → (b ≡ true → a ≡ true) → a ≡ b
agree true b there back = sym (there refl)
agree false true there back = back refl
agree false false there back = refl

some_page : (stored : List (List ℕ)) (n : ℕ) → n < length stored → IsSome (slice_get stored n)
some_page [] n low = absurd (omega (arith, low))
some_page (x ∷ xs) zero low = refl
some_page (x ∷ xs) (suc n) low = some_page xs n (omega (arith, low))

-- a number of a page of the file is in use
in_use_stored : (stored : List (List ℕ)) (n : ℕ) → 1 ≤ n → n < length stored → IsSome (cond (eqb n 0) None (slice_get stored n))
in_use_stored stored zero some low = absurd (omega (arith, some))
in_use_stored stored (suc n) some low = by_case (eqb (suc n) 0) (grind (arith, nat_tests))
  where
    by_case : (b : Bool) → b ≡ false → IsSome (cond b None (slice_get stored (suc n)))
    by_case true is = absurd (cc)
    by_case false is = some_page stored (suc n) low

-- so such numbers can be freed
pub can_free : (pages : List (Option (List ℕ))) (stored : List (List ℕ)) (writes : List (ℕ × List ℕ)) (taken : ℕ) (freed : List ℕ) (free : ℕ → Bool) → writes ≡ [] → taken ≡ 0 → length pages ≡ length stored
    → ((n : ℕ) → free n ≡ true → (1 ≤ n) × (n < length pages)) → ((n : ℕ) → free n ≡ true → at pages n ≡ cond (eqb n 0) None (slice_get stored n)) → ((n : ℕ) → is_freed freed n ≡ true → free n ≡ true) → CanStage pages writes taken freed
can_free pages stored writes taken freed free none zero_taken whole fits stay some = record {
  written = subst (AllByRecursion _) (sym none) tt;
  taken_written = λ i low. absurd (omega (arith, low, zero_taken));
  freed_in_use = each_freed (λ n. IsSome (at pages n)) freed (λ n is.
      let free_is = some n is in
      let both = fits n free_is in
      subst IsSome (sym (stay n free_is)) (in_use_stored stored n both.0 (omega (arith, both.1, whole))));
  freed_not_written = each_freed (λ n. is_written writes n ≡ false) freed (λ n is. ap (λ (ws : List (ℕ × List ℕ)). is_written ws n) none);
  room = λ low. absurd (omega (arith, low, zero_taken));
}

-- the pages after an edit that frees them
pub pages_freed : {E : Type 0} (r : Result (Unit {0}) E) (pages new : PageMap) (writes : List (ℕ × List ℕ)) (freed : List ℕ) (free : ℕ → Bool) → writes ≡ [] → ((n : ℕ) → is_freed freed n ≡ true → free n ≡ true) → ((n : ℕ) → free n ≡ true → is_freed freed n ≡ true)
    → OnOk r ((n : ℕ) → new n ≡ after pages writes freed n) → OnOk r ((n : ℕ) → new n ≡ cond (free n) None (pages n))
pages_freed (Ok x) pages new writes freed free none some all is =
    λ n. is n ∙ ap (λ (ws : List (ℕ × List ℕ)). after pages ws freed n) none ∙ freed_at pages freed n ∙ ap (λ (b : Bool). cond b None (pages n)) (agree (is_freed freed n) (free n) (some n) (all n))
pages_freed (Err e) pages new writes freed free none some all is = tt

-- what a test and another that fails leave
first_holds : (held freed : Bool) → (held && not freed) ≡ true → held ≡ true
first_holds true freed is = refl
first_holds false freed is = absurd (cc)

-- the same with what the edit leaves of all else
pub frees_staged : {E : Type 0} (r : Result (Unit {0}) E) (old new : PagesView) (writes : List (ℕ × List ℕ)) (freed : List ℕ) (free : ℕ → Bool) → writes ≡ [] → ((n : ℕ) → is_freed freed n ≡ true → free n ≡ true) → ((n : ℕ) → free n ≡ true → is_freed freed n ≡ true)
    → OnOk r ((n : ℕ) → at new.pages n ≡ after (at old.pages) writes freed n) → OnOk r (length new.pages ≡ count_after old.pages 0) → OnOk r ((n : ℕ) → is_in_memory new n ≡ ((is_written writes n || is_in_memory old n) && not (is_freed freed n)))
    → new ≡ record old { pages = new.pages; changed = new.changed; in_memory = new.in_memory } → OnOk r (Frees old new free)
frees_staged {E} (Ok x) old new writes freed free none some all shown count memory rest = record {
  pages = pages_freed {E = E} (Ok x) (at old.pages) (at new.pages) writes freed free none some all shown;
  count = omega (arith, count);
  in_memory = λ n is. first_holds (is_in_memory old n) (is_freed freed n) (sym (ap (λ (ws : List (ℕ × List ℕ)). (is_written ws n || is_in_memory old n) && not (is_freed freed n)) none) ∙ sym (memory n) ∙ is);
  rest = rest;
}
frees_staged (Err e) old new writes freed free none some all shown count memory rest = tt

-- the pages in memory without those that are free
pub spelt_left : (k : ℕ) (old new : PagesView) (free : ℕ → Bool) → ((n : ℕ) → is_in_memory new n ≡ true → is_in_memory old n ≡ true) → ((n : ℕ) → at new.pages n ≡ cond (free n) None (at old.pages n)) → AreSpeltIn k old → AreSpeltIn k new
spelt_left k old new free memory shown spelt = λ n page held there. spelt n page (memory n held) (used (free n) (at old.pages n) page (sym (shown n) ∙ there))
  where
    used : (none : Bool) (here : Option (List ℕ)) (page : List ℕ) → cond none None here ≡ Some page → here ≡ Some page
    used true here page is = absurd (cc)
    used false here page is = is
