-- A store over a disk, which may be changed in any way that its calls allow and stands for the old file all the while.
use Rattle.std.specs.Prelude.{◌≡◌, ◌≢◌, ℕ, ◌≤◌, Bool, true, false, cond, List, Option, Result, Ok, Err, OnOk, is_some, length, slice_index_or, refl}
use Rattle.std.specs.Coded.{Coded, code_by, coded×, coded_ℕ, coded_bool, coded_list, coded_option}
use Rattle.rec_types.specs.Table.{counted}
use Rattle.page_store.specs.Calls.{counted_times}
use Rattle.page_store.specs.FreeNumbers.{greatest_page_count}
use Rattle.page_store.specs.Guards as guards
use Rattle.page_store.specs.Guards.{Guard}
use Rattle.page_store.specs.Opening.{Opening}
use Rattle.page_store.specs.StoreFaults.{is_failed}
use Rattle.page_store.specs.declared.store_fault.StoreFault.{StoreFault}
use Rattle.page_store.specs.declared.store_fault.StoreFault.TheVariants.{Failed, Memory}
use Rattle.page_journal.specs.Files.{PageFile, SideFile, Files, restored, recovered}
use Rattle.page_journal.specs.Crash.{IsSettled, IsSealed, FilesStandFor, MayWrite}
use Rattle.page_journal.specs.LoggedStores.{coded_place}
use Rattle.page_journal.specs.declared.disk_state.DiskState.{Ghosts}
use Rattle.page_journal.specs.declared.log_place.LogPlace.{LogPlace}
use Rattle.page_journal.specs.declared.seal_state.SealState.{SealState}
use Rattle.page_journal.specs.declared.seal_state.SealState.TheVariants.{Unsealed, Sealed, Stopped}

-- the disk; of each page that the file had when it was sealed whether it was kept; whether it was; how many reads, calls of the shape and changing calls there were, and how many calls were refused; where the log of commits has its place, if one was begun, and the text of the commit that is in doubt
pub record KeptStored (D : Type 0) : Type 0 where
  pub disk : D
  pub kept : List Bool
  pub state : SealState
  pub reads : ℕ
  pub shapes : ℕ
  pub writes : ℕ
  pub refusals : ℕ
  pub log : Option LogPlace
  pub doubt : List ℕ

abbrev pub state_code : SealState → Bool × Bool
state_code Unsealed = (false, false)
state_code Sealed = (true, false)
state_code Stopped = (false, true)

abbrev pub seal_state_of : Bool × Bool → SealState
seal_state_of p = cond p.0 Sealed (cond p.1 Stopped Unsealed)

pub state_back : (s : SealState) → seal_state_of (state_code s) ≡ s
state_back Unsealed = refl
state_back Sealed = refl
state_back Stopped = refl

abbrev pub coded_state : Coded SealState
coded_state = code_by (Bool × Bool) (coded× coded_bool coded_bool) state_code seal_state_of state_back

abbrev pub coded_kept_stored : {D : Type 0} → Coded D → Coded (KeptStored D)
coded_kept_stored {D} d = code_by (D × (List Bool × (SealState × (ℕ × (ℕ × (ℕ × (ℕ × (Option LogPlace × List ℕ)))))))) (coded× d (coded× (coded_list coded_bool) (coded× coded_state (coded× coded_ℕ (coded× coded_ℕ (coded× coded_ℕ (coded× coded_ℕ (coded× (coded_option coded_place) (coded_list coded_ℕ))))))))) (λ s. (s.disk, (s.kept, (s.state, (s.reads, (s.shapes, (s.writes, (s.refusals, (s.log, s.doubt))))))))) (λ p. record { disk = p.0; kept = p.1.0; state = p.1.1.0; reads = p.1.1.1.0; shapes = p.1.1.1.1.0; writes = p.1.1.1.1.1.0; refusals = p.1.1.1.1.1.1.0; log = p.1.1.1.1.1.1.1.0; doubt = p.1.1.1.1.1.1.1.1 }) (λ _. refl)

-- a store over the file that these files stand for, beside which these commits are kept where a log was begun, and this one is in doubt
abbrev pub opened_over : Files → Option LogPlace → List (List (List ℕ)) → List ℕ → Opening
opened_over files log commits doubt = record {
  pages = (recovered files).pages;
  tail = (recovered files).tail;
  log = files.commits.log;
  logged = is_some log;
  commits = commits;
  doubt = doubt;
}

-- whether page n was kept, or is past the old end
abbrev pub is_writable : List Bool → ℕ → Bool
is_writable kept n = slice_index_or kept n true

-- whether page n may be written over
abbrev pub may_write_in : SealState → List Bool → ℕ → Bool
may_write_in Unsealed kept n = false
may_write_in Sealed kept n = is_writable kept n
may_write_in Stopped kept n = false

-- which pages the store lets be written over, and how many calls it has refused
abbrev pub guard_of : SealState → List Bool → ℕ → Guard
guard_of Unsealed kept refusals = guards.Unsealed refusals
guard_of Sealed kept refusals = guards.Sealed kept refusals
guard_of Stopped kept refusals = guards.Stopped refusals

-- how many calls of the store failed: those of the disk that did, and those that were refused
abbrev pub failures_with : ℕ → ℕ → ℕ
failures_with failed refusals = counted_times failed refusals

-- a file that is whole pages, and no more than there can be
pub record CanBeSealed (main : PageFile) : Type 0 where
  pub no_tail : main.tail ≡ 0
  pub most : length main.pages ≤ greatest_page_count

-- it is sealed, and stands for the old file
pub record HoldsOld {D : Type 0} (g : Ghosts D) (old : PageFile) (flags : List Bool) (disk : D) : Type 0 where
  pub kept : SideFile
  pub base : List (List ℕ)
  pub sealed : IsSealed g kept base disk
  pub flags_kept : (n : ℕ) → is_writable flags n ≡ true → MayWrite kept n
  pub began : restored kept base ≡ old

-- what holds of the disk in each state
abbrev pub IsSo : {D : Type 0} → Ghosts D → PageFile → SealState → List Bool → D → Type 0
IsSo g old Unsealed flags disk = IsSettled g old disk
IsSo g old Sealed flags disk = HoldsOld g old flags disk
IsSo g old Stopped flags disk = (g.seen disk).main ≡ old

-- and each crash since the disk was opened leaves the old file
pub record IsGuarded {D : Type 0} (g : Ghosts D) (old : PageFile) (state : SealState) (flags : List Bool) (disk : D) : Type 0 where
  pub so : IsSo g old state flags disk
  pub time : (c : Files) → g.left_since disk 0 c → FilesStandFor old c

-- the file that there was when the disk was opened
abbrev pub old_file_of : {D : Type 0} → Ghosts D → D → PageFile
old_file_of g disk = recovered (g.began disk)

-- the file is as it was, and the disk as steady, and opened over the same files
pub record KeepsFile {D : Type 0} (g : Ghosts D) (old new : D) : Type 0 where
  pub same : (g.seen new).main ≡ (g.seen old).main
  pub steady : g.steady new ≡ g.steady old
  pub began : g.began new ≡ g.began old

-- How the calls of a finish end. Where no page was to be kept aside there are none, and nor are there where keeping them failed, which is the fault then; else there are three, and one that fails is counted.
pub record IsFinished {D : Type 0} (g : Ghosts D) (state : SealState) (old : D) (answer : Result (Unit {0}) StoreFault) (new : D) : Type 0 where
  pub unsealed : state ≡ Unsealed → (new ≡ old) × (answer ≡ Ok tt)
  pub moments : state ≡ Sealed → OnOk answer (counted_times (g.moment old) 3 ≤ g.moment new)
  pub stopped : state ≡ Stopped → (new ≡ old) × (answer ≡ Err Failed)
  pub failures : state ≢ Stopped → g.failures new ≡ counted (g.failures old) (is_failed answer)
  pub no_memory : answer ≢ Err Memory
