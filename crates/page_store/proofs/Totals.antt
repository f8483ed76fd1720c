-- How many pages there are: page 0, those in use and the free ones.
use Rattle.std.proofs.Common.{◌≡◌, ℕ, ◌+◌, ◌<◌, ◌≤◌, Bool, true, false, ◌||◌, eqb, List, [], ◌∷◌, length, drop, Option, Some, None, is_some, zero, suc, refl, sym, ap, ◌∙◌, arith}
use Rattle.std.specs.List.{AllByRecursion, IsDistinct, list_any}
use Rattle.std.proofs.lemmas.Cmp.{nat_eq_equiv}
use Rattle.std.proofs.lemmas.Bool.Decides.{nat_tests}
use Rattle.std.proofs.lemmas.Map.Made.{length-from_same_keys}
use Rattle.page_store.specs.PageMap.{at}
use Rattle.page_store.specs.FreeNumbers.{free_from, free_numbers, AreDistinct, pages_1_and_3}
use Rattle.page_store.proofs.Overlays.{neither}

-- the numbers of the pages in use, where the first page has number n
abbrev used_from : ℕ → List (Option (List ℕ)) → List ℕ
used_from n [] = []
used_from n (None ∷ pages) = used_from (n + 1) pages
used_from n (Some page ∷ pages) = n ∷ used_from (n + 1) pages

both : (n : ℕ) (pages : List (Option (List ℕ))) → length pages ≡ length (used_from n pages) + length (free_from n pages)
both n [] = refl
both n (None ∷ pages) = let later = both (n + 1) pages in omega arith
both n (Some page ∷ pages) = let later = both (n + 1) pages in omega arith

abbrev is_one : List ℕ → ℕ → Bool
is_one numbers n = list_any (λ u. eqb n u) numbers

below_first : (n k : ℕ) (pages : List (Option (List ℕ))) → k < n → is_one (used_from n pages) k ≡ false
below_first n k [] below = refl
below_first n k (None ∷ pages) below = below_first (n + 1) k pages (omega arith)
below_first n k (Some page ∷ pages) below =
    let e : eqb k n ≡ false = grind (arith, nat_tests) in
    ap (λ b. b || is_one (used_from (n + 1) pages) k) e ∙ below_first (n + 1) k pages (omega arith)

apart : (n : ℕ) (pages : List (Option (List ℕ))) → AreDistinct (used_from n pages)
apart n [] = tt
apart n (None ∷ pages) = apart (n + 1) pages
apart n (Some page ∷ pages) = (below_first (n + 1) n pages (omega arith), apart (n + 1) pages)

used_at : (n k : ℕ) (pages : List (Option (List ℕ))) → is_one (used_from n pages) (n + k) ≡ is_some (at pages k)
used_at n k [] = refl
used_at n zero (None ∷ pages) = below_first (n + 1) (n + 0) pages (omega arith)
used_at n (suc k) (None ∷ pages) = let e : n + suc k ≡ (n + 1) + k = omega arith in ap (is_one (used_from (n + 1) pages)) e ∙ used_at (n + 1) k pages
used_at n zero (Some page ∷ pages) =
    let e : eqb (n + 0) n ≡ true = grind (arith, nat_tests) in ap (λ b. b || is_one (used_from (n + 1) pages) (n + 0)) e
used_at n (suc k) (Some page ∷ pages) =
    let f : eqb (n + suc k) n ≡ false = grind (arith, nat_tests) in
    let e : n + suc k ≡ (n + 1) + k = omega arith in
    ap (λ b. b || is_one (used_from (n + 1) pages) (n + suc k)) f ∙ ap (is_one (used_from (n + 1) pages)) e ∙ used_at (n + 1) k pages

none_alike : (n : ℕ) (numbers : List ℕ) → is_one numbers n ≡ false → AllByRecursion (λ m. eqb n m ≡ false) numbers
none_alike n [] gone = tt
none_alike n (m ∷ numbers) gone = let parts = neither (eqb n m) (is_one numbers n) gone in (parts.0, none_alike n numbers parts.1)

distinct : (numbers : List ℕ) → AreDistinct numbers → IsDistinct eqb numbers
unfolding IsDistinct
distinct [] are = tt
distinct (n ∷ numbers) are = (none_alike n numbers are.0, distinct numbers are.1)

used_here : (pages : List (Option (List ℕ))) (n : ℕ) → at pages 0 ≡ None → is_one (used_from 1 (drop 1 pages)) n ≡ is_some (at pages n)
used_here [] n first = refl
used_here (page ∷ pages) zero first = below_first 1 0 pages (omega arith) ∙ sym (ap is_some first)
used_here (page ∷ pages) (suc n) first = let e : suc n ≡ 1 + n = omega arith in ap (is_one (used_from 1 pages)) e ∙ used_at 1 n pages

-- as many pages as page 0, those in use and the free ones together
pub page_total : (pages : List (Option (List ℕ))) (used : List ℕ) → 1 ≤ length pages → at pages 0 ≡ None → AreDistinct used → ((n : ℕ) → is_some (at pages n) ≡ list_any (λ u. eqb n u) used) → length pages ≡ 1 + length used + length (free_numbers pages)
page_total [] used some first are exact = absurd (omega arith)
page_total (page ∷ pages) used some first are exact =
    let numbers = used_from 1 pages in
    let same = length-from_same_keys nat_eq_equiv numbers used (distinct numbers (apart 1 pages)) (distinct used are) (λ n. used_here (page ∷ pages) n first ∙ exact n) in
    let all = both 1 pages in
    omega arith

-- two pages in use, by example
pub example_used : (n : ℕ) → is_some (at pages_1_and_3 n) ≡ list_any (λ u. eqb n u) (3 ∷ 1 ∷ [])
example_used n = sym (used_here pages_1_and_3 n refl) ∙ turned (eqb n 1) (eqb n 3)
  where
    turned : (a b : Bool) → (a || (b || false)) ≡ (b || (a || false))
    turned true true = refl
    turned true false = refl
    turned false true = refl
    turned false false = refl
