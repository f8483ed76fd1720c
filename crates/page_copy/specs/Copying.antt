-- Pages that are copied into an empty store, and what a stop leaves.
use Rattle.std.specs.Prelude.{◌≡◌, ◌≢◌, ◌⊎◌, ℕ, ◌≤◌, ◌^◌, zero, suc, Bool, true, false, List, [], ◌∷◌, ◌++◌, length, Option, Some, None, Result, Ok, Err, slice_get, slice_index_or}
use Rattle.page_store.specs.Blank.{blank}
use Rattle.page_store.specs.PageMap.{PageMap}
use Rattle.page_store.specs.Journal.{Journal, noted_steps, NotesFront, writes_below}
use Rattle.page_store.specs.declared.store_state.StoreState.{Ghosts}
use Rattle.page_store.specs.declared.step.Step.{Step}
use Rattle.page_store.specs.declared.step.Step.TheVariants.{SetPages, Write, Sync}
use Rattle.page_store.specs.declared.store_fault.StoreFault.TheVariants.{Failed, Memory}
use Rattle.page_copy.specs.declared.copying.CopyFault.{CopyFault}
use Rattle.page_copy.specs.declared.copying.CopyFault.TheVariants.{Source, Length, Copy}

-- the pages but page 0
abbrev pub behind_first : List (List ℕ) → PageMap
behind_first pages zero = None
behind_first pages (suc n) = slice_get pages (suc n)

abbrev pub first_of : List (List ℕ) → List ℕ
first_of pages = slice_index_or pages 0 []

-- page 0 is written, and the device keeps it
abbrev pub last_calls : List (List ℕ) → List Step
last_calls pages = Write 0 (first_of pages) ∷ Sync ∷ []

-- The calls by which an empty store becomes a copy of these pages: it is made so long, the pages behind page 0 are written,
-- and page 0 once the device keeps them.
abbrev pub copying : List (List ℕ) → List Step
copying pages = SetPages (length pages) ∷ (writes_below (behind_first pages) (length pages) ++ (Sync ∷ last_calls pages))

-- all of these calls were made, or up to the first that failed
abbrev pub MakesCalls : List Step → Option Journal → Result (Unit {0}) CopyFault → Option Journal → Type 0
MakesCalls calls old (Ok done) new = new ≡ noted_steps old calls
MakesCalls calls old (Err fault) new = NotesFront calls old new

-- pages that are no whole file: there is none, or more than their numbers count, or a tail
abbrev pub IsUncopied : List (List ℕ) → ℕ → Type 0
IsUncopied pages tail = (length pages ≡ 0) ⊎ ((2 ^ 32 ≤ length pages) ⊎ (tail ≢ 0))

-- a fault of the length is one of these pages
abbrev pub IsCopyFault : List (List ℕ) → ℕ → CopyFault → Type 0
IsCopyFault pages tail Source = Unit {0}
IsCopyFault pages tail Length = IsUncopied pages tail
IsCopyFault pages tail (Copy fault) = Unit {0}

-- whether a call of the store that is read failed
abbrev pub is_source : {A : Type 0} → Result A CopyFault → Bool
is_source (Ok done) = false
is_source (Err Source) = true
is_source (Err Length) = false
is_source (Err (Copy fault)) = false

-- whether a call of the other store failed, rather than finding no memory
abbrev pub is_copy : {A : Type 0} → Result A CopyFault → Bool
is_copy (Ok done) = false
is_copy (Err Source) = false
is_copy (Err Length) = false
is_copy (Err (Copy Failed)) = true
is_copy (Err (Copy Memory)) = false

-- what a stop leaves: no page, or a page 0 of zeros, or the copy
abbrev pub IsNoneOrCopy : List (List ℕ) → List (List ℕ) → Type 0
IsNoneOrCopy pages stored = (stored ≡ []) ⊎ ((slice_get stored 0 ≡ Some blank) ⊎ (stored ≡ pages))

-- a store that is as long as it was, with its tail, and steady as it was
abbrev pub KeepsShape : {T : Type 0} → Ghosts T → T → T → Type 0
KeepsShape t old new = (length (t.pages new) ≡ length (t.pages old)) × (t.tail new ≡ t.tail old) × (t.steady new ≡ t.steady old)
