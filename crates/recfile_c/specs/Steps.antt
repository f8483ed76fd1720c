-- Steps that carry a file's changes out on its pages.
use Rattle.std.specs.Prelude.{ℕ, List, [], ◌∷◌, Option, Some}
use Rattle.page_store.specs.Journal.{Journal, carried}
use Rattle.page_store.specs.declared.step.Step.{Step}
use Rattle.page_store.specs.declared.step.Step.TheVariants.{SetPages, Write, Sync}

-- what contracts see of a store that keeps steps: the pages of the file that was opened, the steps since then, and the counts of a store
pub record JournalView : Type 0 where
  pub opened : List (List ℕ)
  pub steps : List Step
  pub reads : ℕ
  pub shapes : ℕ
  pub writes : ℕ
  pub failures : ℕ

-- the pages that the steps leave
abbrev pub pages_after : JournalView → List (List ℕ)
pages_after j = carried j.opened j.steps

-- its journal as a store
abbrev pub journal_of : JournalView → Option Journal
journal_of j = Some (record { opened = j.opened; steps = j.steps })

-- steps by example: the steps that write page 1 of two without its write, and a third page written before and after it is there
abbrev pub page_1_left_out : List Step
page_1_left_out = SetPages 2 ∷ Write 0 (4 ∷ []) ∷ Sync ∷ Sync ∷ Write 0 (5 ∷ []) ∷ Sync ∷ []

abbrev pub written_before_longer : List Step
written_before_longer = Write 2 (3 ∷ []) ∷ SetPages 3 ∷ []

abbrev pub longer_before_written : List Step
longer_before_written = SetPages 3 ∷ Write 2 (3 ∷ []) ∷ []
