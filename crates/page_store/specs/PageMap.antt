-- Pages by their numbers, and edits of them.
use Rattle.std.specs.Prelude.{ℕ, Bool, List, [], ◌∷◌, Option, Some, None, ◌==◌, if◌then◌else◌, slice_index_or}
use Rattle.std.specs.List.{list_any}

-- the bytes of each page that is in use
abbrev pub PageMap : Type 0
PageMap = ℕ → Option (List ℕ)

-- a list of pages as a map: None past its end
abbrev pub at : List (Option (List ℕ)) → PageMap
at pages n = slice_index_or pages n None

-- one page written
abbrev pub write_page : PageMap → ℕ → List ℕ → PageMap
write_page pages n page q = if q == n then Some page else pages q

-- pages written in order
abbrev pub pages_with : PageMap → List (ℕ × List ℕ) → PageMap
pages_with pages [] = pages
pages_with pages (w ∷ writes) = pages_with (write_page pages w.0 w.1) writes

-- numbers freed
abbrev pub free_all : PageMap → List ℕ → PageMap
free_all pages [] q = pages q
free_all pages (n ∷ freed) q = if q == n then None else free_all pages freed q

-- the pages after an edit
abbrev pub after : PageMap → List (ℕ × List ℕ) → List ℕ → PageMap
after pages writes freed = free_all (pages_with pages writes) freed

-- whether an edit writes page q
abbrev pub is_written : List (ℕ × List ℕ) → ℕ → Bool
is_written writes q = list_any (λ (w : ℕ × List ℕ). q == w.0) writes

-- whether an edit frees page q
abbrev pub is_freed : List ℕ → ℕ → Bool
is_freed freed q = list_any (λ n. q == n) freed
