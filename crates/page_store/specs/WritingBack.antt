-- What writing back does to the pages of a store.
use Rattle.std.specs.Prelude.{◌≡◌, ◌≢◌, ℕ, ◌<◌, ◌≤◌, ◌⊎◌, Bool, false, ◌||◌, List, length, map, Option, Some, None, IsSome, is_some, ◌==◌, nat_le, if◌then◌else◌, slice_get}
use Rattle.std.specs.List.{range_with_len}
use Rattle.page_store.specs.PageMap.{PageMap, at}
use Rattle.page_store.specs.Overlaid.{is_among}

-- the page that is written back as page n: the changed one, where page n is in use
abbrev pub to_write : List (Option (List ℕ)) → List ℕ → ℕ → PageMap
to_write slots free count n = if n == 0 || (nat_le count n || is_among free n) then None else at slots n

-- of each page below the count whether it is in use and was changed
unfoldable pub in_memory_of : List (Option (List ℕ)) → List ℕ → ℕ → List Bool
in_memory_of slots free count = map (λ n. is_some (to_write slots free count n)) (range_with_len 0 count)

-- each of these pages is stored
abbrev pub AreStored : PageMap → List (List ℕ) → Type 0
AreStored pages stored = (n : ℕ) → IsSome (pages n) → slice_get stored n ≡ pages n

-- as many pages, and those that the test leaves out are the same
pub record SameBut (may : ℕ → Bool) (old new : List (List ℕ)) : Type 0 where
  pub long : length new ≡ length old
  pub same : (n : ℕ) → may n ≡ false → slice_get new n ≡ slice_get old n

-- no fewer pages and at most the count, and of the old ones only page 0 and those to write have changed
pub record KeepsOthers (pages : PageMap) (count : ℕ) (old new : List (List ℕ)) : Type 0 where
  pub longer : length old ≤ length new
  pub fits : length new ≤ count
  pub others : (n : ℕ) → n ≢ 0 → n < length old → pages n ≡ None → slice_get new n ≡ slice_get old n

-- where writing back may have stopped: no old page but page 0 has changed, or page 0 is the mark, or each page is stored
abbrev pub Stopped : PageMap → List ℕ → List (List ℕ) → List (List ℕ) → Type 0
Stopped pages mark old new = ((n : ℕ) → n ≢ 0 → n < length old → slice_get new n ≡ slice_get old n) ⊎ ((slice_get new 0 ≡ Some mark) ⊎ AreStored pages new)
