-- How pages are made of a store, changed pages in memory, free numbers and a count.
use Rattle.std.specs.Prelude.{◌≡◌, ℕ, ◌<◌, ◌≤◌, Bool, true, false, ◌||◌, List, length, map, Option, Some, None, IsSome, ◌==◌, if◌then◌else◌, slice_get}
use Rattle.std.specs.List.{list_any, range_with_len}
use Rattle.std.specs.Option.{option_map}
use Rattle.std.specs.Ordering.{nat_cmp}
use Rattle.std.specs.BTreeMap.{is_at}
use Rattle.std.specs.declared.boxed.Box.{Box}
use Rattle.page_store.specs.PageMap.{at}
use Rattle.page_store.specs.FreeNumbers.{greatest_page_count}

-- whether the numbers of a set have n
abbrev pub is_among : List ℕ → ℕ → Bool
is_among numbers n = list_any (is_at (nat_cmp n)) numbers

-- the first of two values that is there
abbrev pub or_else : {A : Type 0} → Option A → Option A → Option A
or_else (Some x) other = Some x
or_else None other = other

-- the bytes of the changed pages
abbrev pub slots_of : {Z : Type 0} → List (Option (Box (List ℕ) Z)) → List (Option (List ℕ))
slots_of {Z} changed = map (option_map (λ (page : Box (List ℕ) Z). page.value)) changed

-- the newest bytes of page n: none where it is page 0 or free, else what was changed, else what is stored
abbrev pub page_at : List (List ℕ) → List (Option (List ℕ)) → List ℕ → ℕ → Option (List ℕ)
page_at stored slots free n = if n == 0 || is_among free n then None else or_else (at slots n) (slice_get stored n)

-- the newest bytes of the pages below the count
unfoldable pub pages_of : List (List ℕ) → List (Option (List ℕ)) → List ℕ → ℕ → List (Option (List ℕ))
pages_of stored slots free count = map (page_at stored slots free) (range_with_len 0 count)

-- what holds of them: a page in use that the store lacks was changed, and nothing was where no edit was staged
pub record ArePages (stored : List (List ℕ)) (slots : List (Option (List ℕ))) (free : List ℕ) (count : ℕ) (changed : Bool) : Type 0 where
  pub some : 1 ≤ count
  pub most : count ≤ greatest_page_count
  pub store_fits : length stored ≤ count
  pub free_fits : (n : ℕ) → is_among free n ≡ true → (1 ≤ n) × (n < count)
  pub there : (n : ℕ) → 1 ≤ n → n < count → is_among free n ≡ false → length stored ≤ n → IsSome (at slots n)
  pub idle : changed ≡ false → (n : ℕ) → at slots n ≡ None
