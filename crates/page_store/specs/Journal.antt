-- The changing calls of a store that succeeded, as steps, and what carrying them out leads to.
use Rattle.std.specs.Prelude.{◌≡◌, ℕ, ◌-◌, zero, suc, List, [], ◌∷◌, ◌++◌, Option, Some, None, length, slice_set}
use Rattle.page_store.specs.Blank.{blanks}
use Rattle.page_store.specs.PageMap.{PageMap}
use Rattle.page_store.specs.declared.step.Step.{Step}
use Rattle.page_store.specs.declared.step.Step.TheVariants.{SetPages, Write, Sync}

-- the pages after one step: made longer by pages of zeros, one written, or as they were
abbrev pub carry : List (List ℕ) → Step → List (List ℕ)
carry pages (SetPages n) = pages ++ blanks (n - length pages)
carry pages (Write n page) = slice_set pages n page
carry pages Sync = pages

-- the pages after all steps
abbrev pub carried : List (List ℕ) → List Step → List (List ℕ)
carried pages [] = pages
carried pages (s ∷ steps) = carried (carry pages s) steps

-- the pages that a store was made of, and its changing calls since then that succeeded
pub record Journal : Type 0 where
  pub opened : List (List ℕ)
  pub steps : List Step

-- the pages that a store was made of, where its journal has no call
abbrev pub opened_before : List (List ℕ) → List Step → Option (List (List ℕ))
opened_before opened [] = Some opened
opened_before opened (s ∷ steps) = None

abbrev pub untouched : Option Journal → Option (List (List ℕ))
untouched None = None
untouched (Some j) = opened_before j.opened j.steps

-- further calls, where the store keeps a journal
abbrev pub noted_steps : Option Journal → List Step → Option Journal
noted_steps None more = None
noted_steps (Some j) more = Some (record { opened = j.opened; steps = j.steps ++ more })

-- the first of these calls, and no more of them
abbrev pub NotesFront : List Step → Option Journal → Option Journal → Type 0
NotesFront all old new = (front : List Step) × (rest : List Step) × (all ≡ front ++ rest) × (new ≡ noted_steps old front)

-- the write of a page, where there is one
abbrev pub write_of : ℕ → Option (List ℕ) → List Step
write_of n None = []
write_of n (Some page) = Write n page ∷ []

-- the writes of the pages below n, in ascending order of their numbers
abbrev pub writes_below : PageMap → ℕ → List Step
writes_below pages zero = []
writes_below pages (suc n) = writes_below pages n ++ write_of n (pages n)

-- The calls of a writing back: the store is made longer, page 0 says that the file is being written, the pages are written, page 0 says that it was closed, and the device keeps it after each of the three.
abbrev pub writing_back : PageMap → ℕ → List ℕ → List ℕ → List Step
writing_back pages count writing clean =
    SetPages count ∷ Write 0 writing ∷ Sync ∷ (writes_below pages count ++ (Sync ∷ Write 0 clean ∷ Sync ∷ []))
