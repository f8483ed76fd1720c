-- Which page numbers are free, and which of them an edit takes.
use Rattle.std.specs.Prelude.{◌≡◌, ℕ, ◌+◌, ◌-◌, false, ◌==◌, List, [], ◌∷◌, length, drop, Option, Some, None, nat_lt, if◌then◌else◌, slice_index}
use Rattle.std.specs.List.{list_any}

-- the numbers of the pages that are not in use, where the first page has number n
abbrev pub free_from : ℕ → List (Option (List ℕ)) → List ℕ
free_from n [] = []
free_from n (None ∷ pages) = n ∷ free_from (n + 1) pages
free_from n (Some page ∷ pages) = free_from (n + 1) pages

-- the free page numbers, in ascending order: page 0 is none of them
abbrev pub free_numbers : List (Option (List ℕ)) → List ℕ
free_numbers pages = free_from 1 (drop 1 pages)

-- the numbers of a list, and then the count and the numbers above it
abbrev pub nth_or_above : List ℕ → ℕ → ℕ → ℕ
nth_or_above numbers count i = if nat_lt i (length numbers) then slice_index numbers i else count + (i - length numbers)

-- the page number that an edit takes as its i-th, from 0
abbrev pub candidate : List (Option (List ℕ)) → ℕ → ℕ
candidate pages i = nth_or_above (free_numbers pages) (length pages) i

-- the page count after an edit that takes so many numbers
abbrev pub count_after : List (Option (List ℕ)) → ℕ → ℕ
count_after pages taken = length pages + (taken - length (free_numbers pages))

-- the most pages that there can be, page 0 included
abbrev pub greatest_page_count : ℕ
greatest_page_count = 1000001

-- no number comes twice
abbrev pub AreDistinct : List ℕ → Type 0
AreDistinct [] = Unit {0}
AreDistinct (n ∷ numbers) = (list_any (λ m. n == m) numbers ≡ false) × AreDistinct numbers

-- five pages, of which 1 and 3 are in use
abbrev pub pages_1_and_3 : List (Option (List ℕ))
pages_1_and_3 = None ∷ Some [] ∷ None ∷ Some [] ∷ None ∷ []
