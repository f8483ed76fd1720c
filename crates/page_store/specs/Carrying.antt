-- What several changing calls of a store leave and count, up to the first that fails.
use Rattle.std.specs.Prelude.{◌≡◌, ℕ, List, length, Result, OnOk, OnErr}
use Rattle.rec_types.specs.Table.{counted}
use Rattle.page_store.specs.Calls.{counted_times, CountedUpTo}
use Rattle.page_store.specs.Growth.{GrowsTo}
use Rattle.page_store.specs.Guards.{AllowsAll}
use Rattle.page_store.specs.Journal.{noted_steps, NotesFront}
use Rattle.page_store.specs.StoreFaults.{is_failed}
use Rattle.page_store.specs.declared.step.Step.{Step}
use Rattle.page_store.specs.declared.store_fault.StoreFault.{StoreFault}
use Rattle.page_store.specs.declared.store_state.StoreState.{Ghosts}

-- so many calls were made, and these steps noted; up to the one that failed, where there is a fault. Where all of them are allowed none was refused.
pub record Carries {S A : Type 0} (s : Ghosts S) (calls : ℕ) (steps : List Step) (old : S) (answer : Result A StoreFault) (new : S) : Type 0 where
  pub steady : s.steady new ≡ s.steady old
  pub opening : s.opening new ≡ s.opening old
  pub reads : s.reads new ≡ s.reads old
  pub shapes : s.shapes new ≡ s.shapes old
  pub writes : OnOk answer (s.writes new ≡ counted_times (s.writes old) calls)
  pub writes_err : OnErr answer (CountedUpTo calls (s.writes old) (s.writes new))
  pub failures : s.failures new ≡ counted (s.failures old) (is_failed answer)
  pub journal : OnOk answer (s.journal new ≡ noted_steps (s.journal old) steps)
  pub journal_err : OnErr answer (NotesFront steps (s.journal old) (s.journal new))
  pub guard : AllowsAll (s.guard old) steps → s.guard new ≡ s.guard old

-- the store has so many pages, and no bytes after them
pub record IsLong {S : Type 0} (s : Ghosts S) (pages : ℕ) (store : S) : Type 0 where
  pub count : length (s.pages store) ≡ pages
  pub tail : s.tail store ≡ 0

-- the store was at most made longer, and no call noted
pub record OnlyGrows {S : Type 0} (s : Ghosts S) (pages : ℕ) (old new : S) : Type 0 where
  pub grows : GrowsTo pages (s.pages old) (s.pages new)
  pub journal : s.journal new ≡ s.journal old
