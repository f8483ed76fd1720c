-- Steps that are carried out on a page file whose old pages stand beside it, and what a crash leaves of them.
use Rattle.std.specs.Prelude.{◌≡◌, ◌⊎◌, ℕ, List, [], ◌∷◌, ◌++◌, slice_set}
use Rattle.page_store.specs.declared.step.Step.{Step}
use Rattle.page_store.specs.declared.step.Step.TheVariants.{SetPages, Write, Sync}
use Rattle.page_journal.specs.Files.{SideFile}
use Rattle.page_journal.specs.Crash.{MayWrite}

-- a step is done, not done or torn: a page then has any bytes, and the file is longer by any pages
abbrev pub StepLeads : Step → List (List ℕ) → List (List ℕ) → Type 0
StepLeads (SetPages n) old new = (more : List (List ℕ)) × (new ≡ old ++ more)
StepLeads (Write n page) old new = (new ≡ old) ⊎ ((bytes : List ℕ) × (new ≡ slice_set old n bytes))
StepLeads Sync old new = new ≡ old

-- what a crash may leave of these steps
abbrev pub LeavesOf : List Step → List (List ℕ) → List (List ℕ) → Type 0
LeavesOf [] old new = new ≡ old
LeavesOf (step ∷ steps) old new = (mid : List (List ℕ)) × StepLeads step old mid × LeavesOf steps mid new

-- the page that a step writes may be written over
abbrev pub WritesKept : SideFile → Step → Type 0
WritesKept kept (SetPages n) = Unit {0}
WritesKept kept (Write n page) = MayWrite kept n
WritesKept kept Sync = Unit {0}
