-- Which edits can be staged.
use Rattle.std.specs.Prelude.{◌≡◌, ℕ, ◌<◌, ◌≤◌, ◌⊎◌, true, false, List, Option, IsSome}
use Rattle.std.specs.List.{AllByRecursion}
use Rattle.page_store.specs.PageMap.{at, is_written}
use Rattle.page_store.specs.FreeNumbers.{candidate, count_after, greatest_page_count}

-- n is one of the numbers that the edit takes
abbrev pub IsTaken : List (Option (List ℕ)) → ℕ → ℕ → Type 0
IsTaken pages taken n = (i : ℕ) × (i < taken) × (n ≡ candidate pages i)

-- what is written is in use or taken, each taken number is written, what is freed is in use and not written, and a page count that grows stays within its limit
pub record CanStage (pages : List (Option (List ℕ))) (writes : List (ℕ × List ℕ)) (taken : ℕ) (freed : List ℕ) : Type 0 where
  pub written : AllByRecursion (λ (w : ℕ × List ℕ). IsSome (at pages w.0) ⊎ IsTaken pages taken w.0) writes
  pub taken_written : (i : ℕ) → i < taken → is_written writes (candidate pages i) ≡ true
  pub freed_in_use : AllByRecursion (λ n. IsSome (at pages n)) freed
  pub freed_not_written : AllByRecursion (λ n. is_written writes n ≡ false) freed
  pub room : 0 < taken → count_after pages taken ≤ greatest_page_count
