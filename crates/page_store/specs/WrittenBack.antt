-- What writing back leaves of pages and their store.
use Rattle.std.specs.Prelude.{◌≡◌, ◌≢◌, ℕ, ◌+◌, ◌-◌, ◌++◌, false, Some, None, Result, OnOk, OnErr, IsTrue, List, length, is_some, slice_get}
use Rattle.rec_types.specs.Table.{counted}
use Rattle.page_store.specs.Blank.{blanks}
use Rattle.page_store.specs.Calls.{counted_times, CountedUpTo, how_many}
use Rattle.page_store.specs.FreeNumbers.{free_numbers}
use Rattle.page_store.specs.Growth.{GrowsTo}
use Rattle.page_store.specs.Guards.{AllowsAll}
use Rattle.page_store.specs.Journal.{noted_steps, NotesFront, writing_back}
use Rattle.page_store.specs.PageMap.{at}
use Rattle.page_store.specs.PagesView.{PagesView, is_in_memory, memory_pages}
use Rattle.page_store.specs.WriteFaults.{write_by_device}
use Rattle.page_store.specs.WritingBack.{AreStored}
use Rattle.page_store.specs.declared.page_edit.WriteFault.{WriteFault}
use Rattle.page_store.specs.declared.step.Step.{Step}

-- All was written: the store has as many pages as there are here, of which page 0 is the clean one and those in use are the newest; the others are as they were, or zero. No page is in memory.
pub record IsWrittenBack (clean : List ℕ) (old new : PagesView) : Type 0 where
  pub count : length new.stored ≡ length old.pages
  pub tail : new.tail ≡ 0
  pub header : IsTrue old.steady → slice_get new.stored 0 ≡ Some clean
  pub stored : IsTrue old.steady → AreStored (at old.pages) new.stored
  pub unwritten : (n : ℕ) → n ≢ 0 → at old.pages n ≡ None → slice_get new.stored n ≡ slice_get (old.stored ++ blanks (length old.pages - length old.stored)) n
  pub idle : new.changed ≡ false
  pub in_memory : (n : ℕ) → is_in_memory new n ≡ false

-- the pages are the same where what is read is what was written; as many pages, the same in use and the same free, wherever
pub record KeepsPages (old new : PagesView) : Type 0 where
  pub pages : IsTrue old.steady → new.pages ≡ old.pages
  pub count : length new.pages ≡ length old.pages
  pub free : free_numbers new.pages ≡ free_numbers old.pages
  pub in_use : (n : ℕ) → is_some (at new.pages n) ≡ is_some (at old.pages n)

-- the store was at most made longer, and no call noted
pub record GrowsAlone (old new : PagesView) : Type 0 where
  pub grows : GrowsTo (length old.pages) old.stored new.stored
  pub journal : new.journal ≡ old.journal

-- so many calls were made, and these steps noted; up to the one that failed, where there is a fault. Where all of them are allowed none was refused.
pub record CarriesOut (calls : ℕ) (steps : List Step) (old : PagesView) (answer : Result (Unit {0}) WriteFault) (new : PagesView) : Type 0 where
  pub writes : OnOk answer (new.writes ≡ counted_times old.writes calls)
  pub writes_err : OnErr answer (CountedUpTo calls old.writes new.writes)
  pub failures : new.failures ≡ counted old.failures (write_by_device answer)
  pub journal : OnOk answer (new.journal ≡ noted_steps old.journal steps)
  pub journal_err : OnErr answer (NotesFront steps old.journal new.journal)
  pub guard : AllowsAll old.guard steps → new.guard ≡ old.guard

-- how many calls write pages back: six, and one for each page in memory
abbrev pub calls_back : PagesView → ℕ
calls_back v = 6 + how_many (is_in_memory v) (length v.pages)

-- the calls that write pages back, with those two as page 0
abbrev pub steps_back : PagesView → List ℕ → List ℕ → List Step
steps_back v writing clean = writing_back (memory_pages v) (length v.pages) writing clean
