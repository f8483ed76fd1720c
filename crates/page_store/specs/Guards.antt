-- Which pages a store lets be written over.
use Rattle.std.specs.Prelude.{◌≡◌, ◌⊎◌, ℕ, ◌+◌, ◌<◌, ◌≤◌, Bool, true, false, List, [], ◌∷◌, length, slice_index_or, Result, Ok, Err, IsTrue}
use Rattle.page_store.specs.declared.step.Step.{Step}
use Rattle.page_store.specs.declared.step.Step.TheVariants.{SetPages, Write, Sync}

-- A store that lets each of its pages be written over; or one that lets none be until old pages are kept aside, then those that were kept and those past the end that it had, and none any more where keeping them failed. The number is how many calls it has refused by itself.
pub data Guard : Type 0 where
  Unguarded : Guard
  Unsealed : ℕ → Guard
  Sealed : List Bool → ℕ → Guard
  Stopped : ℕ → Guard

-- whether page n may be written over
abbrev pub may_write : Guard → ℕ → Bool
may_write Unguarded n = true
may_write (Unsealed refusals) n = false
may_write (Sealed kept refusals) n = slice_index_or kept n true
may_write (Stopped refusals) n = false

-- whether the store may be made longer
abbrev pub may_grow : Guard → Bool
may_grow Unguarded = true
may_grow (Unsealed refusals) = false
may_grow (Sealed kept refusals) = true
may_grow (Stopped refusals) = false

-- whether a changing call is handed on to the device, and not refused
abbrev pub allows : Guard → Step → Bool
allows guard (SetPages n) = may_grow guard
allows guard (Write n page) = may_write guard n
allows guard Sync = true

-- each of these calls is
abbrev pub AllowsAll : Guard → List Step → Type 0
AllowsAll guard [] = Unit {0}
AllowsAll guard (s ∷ steps) = IsTrue (allows guard s) × AllowsAll guard steps

-- of so many pages exactly those that pass the test were kept, and no call was refused since
pub record KeepsExactly (test : ℕ → Bool) (long refusals : ℕ) (guard : Guard) : Type 0 where
  pub kept : List Bool
  pub sealed : guard ≡ Sealed kept refusals
  pub all : length kept ≡ long
  pub exact : (n : ℕ) → n < long → slice_index_or kept n true ≡ test n

-- What keeping pages aside makes of a store of so many pages, of which those that pass the test were told. Where it failed no call was refused for that.
abbrev pub SealsGuard : {F : Type 0} → (ℕ → Bool) → ℕ → Guard → Result (Unit {0}) F → Guard → Type 0
SealsGuard test long Unguarded answer new = new ≡ Unguarded
SealsGuard test long (Unsealed refusals) (Ok done) new = KeepsExactly test long refusals new
SealsGuard test long (Unsealed refusals) (Err fault) new = (new ≡ Unsealed refusals) ⊎ (new ≡ Stopped refusals)
SealsGuard test long (Sealed kept refusals) answer new = Unit {0}
SealsGuard test long (Stopped refusals) answer new = Unit {0}

-- numbers that ascend from the first on, each once
abbrev pub Ascend : ℕ → List ℕ → Type 0
Ascend first [] = Unit {0}
Ascend first (n ∷ numbers) = (first ≤ n) × Ascend (n + 1) numbers
