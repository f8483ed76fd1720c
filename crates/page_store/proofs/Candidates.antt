-- The numbers that an edit takes: free, ascending, and below the new page count.
use Rattle.std.proofs.Common.{◌≡◌, ℕ, ◌+◌, ◌-◌, ◌<◌, ◌≤◌, List, [], ◌∷◌, length, drop, Option, Some, None, get_or, zero, suc, refl, ap, subst, ◌∙◌, ⊎_elim, arith}
use Rattle.std.proofs.lemmas.List.{get_or_past}
use Rattle.std.proofs.lemmas.Bool.{cases_lt}
use Rattle.std.proofs.lemmas.Bool.Decides.{nat_tests}
use Rattle.page_store.specs.PageMap.{at}
use Rattle.page_store.specs.FreeNumbers.{free_from, free_numbers, candidate, count_after}

free_at : (n : ℕ) (pages : List (Option (List ℕ))) (i : ℕ) → i < length (free_from n pages) → (k : ℕ) × (k < length pages) × (get_or (free_from n pages) i 0 ≡ n + k) × (at pages k ≡ None)
free_at n [] i below = absurd (omega arith)
free_at n (None ∷ pages) zero below = (0, omega arith, omega arith, refl)
free_at n (None ∷ pages) (suc i) below =
    let later = free_at (n + 1) pages i (omega arith) in
    (suc later.0, omega (arith, later.1), omega (arith, later.2), later.3)
free_at n (Some page ∷ pages) i below =
    let later = free_at (n + 1) pages i below in
    (suc later.0, omega (arith, later.1), omega (arith, later.2), later.3)

free_ascends : (n : ℕ) (pages : List (Option (List ℕ))) (i j : ℕ) → i < j → j < length (free_from n pages) → get_or (free_from n pages) i 0 < get_or (free_from n pages) j 0
free_ascends n [] i j before below = absurd (omega arith)
free_ascends n (None ∷ pages) i zero before below = absurd (omega arith)
free_ascends n (None ∷ pages) zero (suc j) before below =
    let later = free_at (n + 1) pages j (omega arith) in omega (arith, later.2)
free_ascends n (None ∷ pages) (suc i) (suc j) before below = free_ascends (n + 1) pages i j (omega arith) (omega arith)
free_ascends n (Some page ∷ pages) i j before below = free_ascends (n + 1) pages i j before below

record IsFreeNumber (pages : List (Option (List ℕ))) (n : ℕ) : Type 0 where
  some : 1 ≤ n
  below : n < length pages
  free : at pages n ≡ None

free_number : (pages : List (Option (List ℕ))) (i : ℕ) → i < length (free_numbers pages) → IsFreeNumber pages (get_or (free_numbers pages) i 0)
free_number [] i below = absurd (omega arith)
free_number (page ∷ pages) i below =
    let found = free_at 1 pages i below in
    let is : suc found.0 ≡ get_or (free_from 1 pages) i 0 = omega (arith, found.2) in
    let here : IsFreeNumber (page ∷ pages) (suc found.0) = record { some = omega arith; below = omega (arith, found.1); free = found.3 } in
    subst (IsFreeNumber (page ∷ pages)) is here

-- the first candidates are the free numbers
pub candidate_low : (pages : List (Option (List ℕ))) (i : ℕ) → i < length (free_numbers pages) → candidate pages i ≡ get_or (free_numbers pages) i 0
candidate_low pages i below = grind (arith, nat_tests)

-- the others count on from the page count
pub candidate_high : (pages : List (Option (List ℕ))) (i : ℕ) → length (free_numbers pages) ≤ i → candidate pages i ≡ length pages + (i - length (free_numbers pages))
candidate_high pages i past = grind (arith, nat_tests)

-- no page of that number is in use
pub candidate_is_free : (pages : List (Option (List ℕ))) (i : ℕ) → at pages (candidate pages i) ≡ None
candidate_is_free pages i =
    ⊎_elim (λ (low : i < length (free_numbers pages)). ap (at pages) (candidate_low pages i low) ∙ (free_number pages i low).free)
    (λ (high : length (free_numbers pages) ≤ i). ap (at pages) (candidate_high pages i high) ∙ get_or_past pages _ None (omega arith))
    (cases_lt i (length (free_numbers pages)))

-- no candidate is 0
pub candidate_is_some : (pages : List (Option (List ℕ))) (i : ℕ) → 1 ≤ length pages → 1 ≤ candidate pages i
candidate_is_some pages i some =
    ⊎_elim (λ (low : i < length (free_numbers pages)). let is = candidate_low pages i low in let fits = (free_number pages i low).some in omega arith)
    (λ (high : length (free_numbers pages) ≤ i). let is = candidate_high pages i high in omega arith)
    (cases_lt i (length (free_numbers pages)))

-- what an edit takes is below the page count that it leaves
pub candidate_fits : (pages : List (Option (List ℕ))) (i taken : ℕ) → i < taken → candidate pages i < count_after pages taken
candidate_fits pages i taken before =
    ⊎_elim (λ (low : i < length (free_numbers pages)). let is = candidate_low pages i low in let fits = (free_number pages i low).below in omega arith)
    (λ (high : length (free_numbers pages) ≤ i). let is = candidate_high pages i high in omega arith)
    (cases_lt i (length (free_numbers pages)))

-- candidates ascend
pub candidate_ascends : (pages : List (Option (List ℕ))) (i j : ℕ) → i < j → candidate pages i < candidate pages j
candidate_ascends pages i j before =
    ⊎_elim (λ (low : j < length (free_numbers pages)).
    let is = candidate_low pages i (omega arith) in
    let is_later = candidate_low pages j low in
    let ascends = free_ascends 1 (drop 1 pages) i j before low in omega arith)
    (λ (high : length (free_numbers pages) ≤ j).
    let is_later = candidate_high pages j high in
    ⊎_elim (λ (low : i < length (free_numbers pages)). let is = candidate_low pages i low in let fits = (free_number pages i low).below in omega arith)
    (λ (past : length (free_numbers pages) ≤ i). let is = candidate_high pages i past in omega arith)
    (cases_lt i (length (free_numbers pages))))
    (cases_lt j (length (free_numbers pages)))

-- each number from the page count on that is below the new one is taken
pub taken_above : (pages : List (Option (List ℕ))) (taken n : ℕ) → length pages ≤ n → n < count_after pages taken → (i : ℕ) × (i < taken) × (candidate pages i ≡ n)
taken_above pages taken n past below =
    let i = length (free_numbers pages) + (n - length pages) in
    let is = candidate_high pages i (omega arith) in
    (i, omega arith, omega arith)
