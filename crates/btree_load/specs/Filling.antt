-- What the calls that fill a store leave of it, and what they count.
use Rattle.std.specs.Prelude.{◌≡◌, ℕ, ◌+◌, ◌<◌, ◌≤◌, List, length, take, Result, IsTrue}
use Rattle.rec_types.specs.Table.{counted}
use Rattle.page_store.specs.FreeNumbers.{greatest_page_count}
use Rattle.page_store.specs.Guards.{Guard, may_grow, may_write}
use Rattle.page_store.specs.declared.store_state.StoreState.{Ghosts}
use Rattle.page_store.specs.WriteFaults.{write_by_device}
use Rattle.page_store.specs.declared.page_edit.WriteFault.{WriteFault}

-- each page may be written over, and the store may be made longer
pub record IsOpen (guard : Guard) : Type 0 where
  pub grows : IsTrue (may_grow guard)
  pub writes : (n : ℕ) → IsTrue (may_write guard n)

-- Changing calls were made, up to the first that failed. Where all of them are allowed none was refused.
pub record FillsStore {S A : Type 0} (s : Ghosts S) (old : S) (answer : Result A WriteFault) (new : S) : Type 0 where
  pub steady : s.steady new ≡ s.steady old
  pub opening : s.opening new ≡ s.opening old
  pub reads : s.reads new ≡ s.reads old
  pub shapes : s.shapes new ≡ s.shapes old
  pub failures : s.failures new ≡ counted (s.failures old) (write_by_device answer)
  pub guard : IsOpen (s.guard old) → s.guard new ≡ s.guard old

-- a store whose first pages were written, so many with page 0, and which has so many more for what follows
pub record HasPages {S : Type 0} (s : Ghosts S) (count more : ℕ) (store : S) : Type 0 where
  pub start : 0 < count
  pub room : count + more ≤ length (s.pages store)
  pub most : length (s.pages store) ≤ greatest_page_count

-- those that were written
abbrev pub written_pages : {S : Type 0} → Ghosts S → ℕ → S → List (List ℕ)
written_pages s count store = take count (s.pages store)

-- calls that keep the length of a store
pub record KeepsLength {S : Type 0} (s : Ghosts S) (old new : S) : Type 0 where
  pub pages : length (s.pages new) ≡ length (s.pages old)
  pub tail : s.tail new ≡ s.tail old
