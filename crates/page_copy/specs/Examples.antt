-- Two pages that are copied, and how they aren't.
use Rattle.std.specs.Prelude.{ℕ, List, [], ◌∷◌}
use Rattle.page_store.specs.declared.step.Step.{Step}
use Rattle.page_store.specs.declared.step.Step.TheVariants.{SetPages, Write, Sync}

abbrev pub pages_4_and_5 : List (List ℕ)
pages_4_and_5 = (4 ∷ []) ∷ (5 ∷ []) ∷ []

abbrev pub two_copied : List Step
two_copied = SetPages 2 ∷ Write 1 (5 ∷ []) ∷ Sync ∷ Write 0 (4 ∷ []) ∷ Sync ∷ []

-- page 0 comes first
abbrev pub first_first : List Step
first_first = SetPages 2 ∷ Write 0 (4 ∷ []) ∷ Write 1 (5 ∷ []) ∷ Sync ∷ []
