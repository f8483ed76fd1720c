-- What is there when a writing back stops, and an example.
use Rattle.std.specs.Prelude.{◌≡◌, ℕ, ◌-◌, ◌⊎◌, List, [], ◌∷◌, ◌++◌, Some, None, length, take, slice_get, ◌==◌, if◌then◌else◌}
use Rattle.page_store.specs.Blank.{blanks}
use Rattle.page_store.specs.PageMap.{PageMap}
use Rattle.page_store.specs.declared.step.Step.{Step}
use Rattle.page_store.specs.declared.step.Step.TheVariants.{SetPages, Write, Sync}

-- the old pages, or these and pages of zeros up to the count, or page 0 is the mark, or the pages that all steps leave
abbrev pub IsPartWay : List (List ℕ) → ℕ → List ℕ → List (List ℕ) → List (List ℕ) → Type 0
IsPartWay old count mark all new = (new ≡ old) ⊎ ((new ≡ old ++ blanks (count - length old)) ⊎ ((slice_get new 0 ≡ Some mark) ⊎ (new ≡ all)))

-- the steps of tries to carry all of them out, each of which stopped after so many
abbrev pub tried : List ℕ → List Step → List Step
tried [] all = []
tried (k ∷ ks) all = take k all ++ tried ks all

-- two pages, of which page 1 is to be written anew
abbrev pub two_pages : List (List ℕ)
two_pages = (1 ∷ []) ∷ (2 ∷ []) ∷ []

abbrev pub new_page_1 : PageMap
new_page_1 n = if n == 1 then Some (3 ∷ []) else None

abbrev pub page_1_written : List Step
page_1_written = SetPages 2 ∷ Write 0 (4 ∷ []) ∷ Sync ∷ Write 1 (3 ∷ []) ∷ Sync ∷ Write 0 (5 ∷ []) ∷ Sync ∷ []

-- the same with page 0 closed before page 1 is written
abbrev pub closed_first : List Step
closed_first = SetPages 2 ∷ Write 0 (5 ∷ []) ∷ Sync ∷ Write 1 (3 ∷ []) ∷ Sync ∷ []

-- the same with page 1 written before page 0 says so
abbrev pub marked_late : List Step
marked_late = SetPages 2 ∷ Write 1 (3 ∷ []) ∷ Sync ∷ Write 0 (4 ∷ []) ∷ Sync ∷ Write 0 (5 ∷ []) ∷ Sync ∷ []

-- two tries that stopped, after one call and after two
abbrev pub two_tries : List Step
two_tries = SetPages 2 ∷ SetPages 2 ∷ Write 0 (4 ∷ []) ∷ []

-- how no tries begin: page 1 written with no mark, and page 1 written twice in one try
abbrev pub unmarked : List Step
unmarked = SetPages 2 ∷ Write 1 (3 ∷ []) ∷ []

abbrev pub page_1_twice : List Step
page_1_twice = SetPages 2 ∷ Write 0 (4 ∷ []) ∷ Sync ∷ Write 1 (3 ∷ []) ∷ Write 1 (3 ∷ []) ∷ []
