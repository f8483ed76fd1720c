-- What each call of a store leaves as it was, and what it counts.
use Rattle.std.specs.Prelude.{◌≡◌, Bool, true, not, [], ◌∷◌, Result, OnOk, OnErr, IsTrue}
use Rattle.rec_types.specs.Table.{counted}
use Rattle.page_store.specs.Guards.{allows}
use Rattle.page_store.specs.Journal.{noted_steps}
use Rattle.page_store.specs.StoreFaults.{is_failed, AsksNoMemory}
use Rattle.page_store.specs.declared.step.Step.{Step}
use Rattle.page_store.specs.declared.step.Step.TheVariants.{SetPages, Write, Sync}
use Rattle.page_store.specs.declared.store_fault.StoreFault.{StoreFault}
use Rattle.page_store.specs.declared.store_state.StoreState.{Ghosts}

-- a store that was at most read
pub record StaysStore {S : Type 0} (s : Ghosts S) (old new : S) : Type 0 where
  pub pages : s.pages new ≡ s.pages old
  pub tail : s.tail new ≡ s.tail old
  pub steady : s.steady new ≡ s.steady old
  pub opening : s.opening new ≡ s.opening old
  pub writes : s.writes new ≡ s.writes old
  pub journal : s.journal new ≡ s.journal old
  pub guard : s.guard new ≡ s.guard old

-- a call that changes no page: a read, or one that asks for the shape
pub record LeavesStore {S A : Type 0} (s : Ghosts S) (read : Bool) (old : S) (answer : Result A StoreFault) (new : S) : Type 0 where
  pub stays : StaysStore s old new
  pub reads : s.reads new ≡ counted (s.reads old) read
  pub shapes : s.shapes new ≡ counted (s.shapes old) (not read)
  pub failures : s.failures new ≡ counted (s.failures old) (is_failed answer)
  pub no_memory : AsksNoMemory answer

-- a call that keeps old pages aside: it counts as a read, and may ask for memory
pub record SealsStore {S A : Type 0} (s : Ghosts S) (old : S) (answer : Result A StoreFault) (new : S) : Type 0 where
  pub pages : s.pages new ≡ s.pages old
  pub tail : s.tail new ≡ s.tail old
  pub steady : s.steady new ≡ s.steady old
  pub opening : s.opening new ≡ s.opening old
  pub reads : s.reads new ≡ counted (s.reads old) true
  pub shapes : s.shapes new ≡ s.shapes old
  pub writes : s.writes new ≡ s.writes old
  pub journal : s.journal new ≡ s.journal old
  pub failures : s.failures new ≡ counted (s.failures old) (is_failed answer)

-- only the step that makes the store longer may ask for memory
abbrev pub AsksToGrow : {A : Type 0} → Step → Result A StoreFault → Type 0
AsksToGrow (SetPages n) answer = Unit {0}
AsksToGrow (Write n page) answer = AsksNoMemory answer
AsksToGrow Sync answer = AsksNoMemory answer

-- a changing call, and the step that it is; where it is allowed it isn't refused
pub record ChangesStore {S A : Type 0} (s : Ghosts S) (step : Step) (old : S) (answer : Result A StoreFault) (new : S) : Type 0 where
  pub steady : s.steady new ≡ s.steady old
  pub opening : s.opening new ≡ s.opening old
  pub reads : s.reads new ≡ s.reads old
  pub shapes : s.shapes new ≡ s.shapes old
  pub writes : s.writes new ≡ counted (s.writes old) true
  pub failures : s.failures new ≡ counted (s.failures old) (is_failed answer)
  pub memory : AsksToGrow step answer
  pub journal : OnOk answer (s.journal new ≡ noted_steps (s.journal old) (step ∷ []))
  pub same_journal : OnErr answer (s.journal new ≡ s.journal old)
  pub guard : IsTrue (allows (s.guard old) step) → s.guard new ≡ s.guard old
