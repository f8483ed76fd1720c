-- What a crash leaves of a page file and of the log of commits beside it.
use Rattle.std.specs.Prelude.{◌≡◌, ◌⊎◌, ℕ, Bool, true, false, List, Option, None, Result}
use Rattle.rec_types.specs.Contents.{Contents}
use Rattle.rec_types.specs.Table.{counted}
use Rattle.page_store.specs.Opening.{Opening}
use Rattle.page_journal.specs.Files.{Files, Belongs, recovered}
use Rattle.page_journal.specs.Crash.{IsSettled, FilesStandFor}
use Rattle.page_journal.specs.Logging.{HasNoLog, Says}
use Rattle.page_journal.specs.LoggedStores.{SaysAll, SaysDoubt, SaysFirst}
use Rattle.page_journal.specs.declared.disk_state.DiskState.{Ghosts}
use Rattle.btree_delete.specs.CleanFile.{HasLength}
use Rattle.file_session.specs.Opened.{IsOutsideFile}
use Rattle.file_session.specs.FileFaults.{is_device_answer}
use Rattle.file_session.specs.Closing.{opening_file}
use Rattle.file_session.specs.LogOver.{HoldsRecords}
use Rattle.rec_types.specs.declared.table_state.TableState.{Ghosts as TableGhosts}
use Rattle.rec_types.specs.declared.table.TableFault.{TableFault}
use Rattle.rec_types.specs.declared.table.TableFault.TheVariants as tables
use Rattle.file_session.specs.declared.overlaying.OverlayFault.{OverlayFault}
use Rattle.file_session.specs.declared.overlaying.OverlayFault.TheVariants as overlaying
use Rattle.file_session.specs.declared.file_fault.FileFault.{FileFault}
use Rattle.file_session.specs.declared.file_fault.FileFault.TheVariants.{BadCommits, BadLength, TooManyRecords}

-- Of the log that stood there, where none was begun since: it is there as it was. Else some commits from the first on, or all and the one that is in doubt.
abbrev pub FindsSome : Bool → Option (List ℕ) → List (List (List ℕ)) → List ℕ → Files → Type 0
FindsSome false log commits doubt c = c.commits.log ≡ log
FindsSome true log commits doubt c = SaysFirst commits c ⊎ SaysDoubt commits doubt c

-- it is there as it was, or all commits are there
abbrev pub FindsWhole : Bool → Option (List ℕ) → List (List (List ℕ)) → Files → Type 0
FindsWhole false log commits c = c.commits.log ≡ log
FindsWhole true log commits c = Says commits c

-- it is there as it was, or all commits are there, and perhaps the one that is in doubt
abbrev pub FindsEach : Bool → Option (List ℕ) → List (List (List ℕ)) → List ℕ → Files → Type 0
FindsEach false log commits doubt c = c.commits.log ≡ log
FindsEach true log commits doubt c = SaysAll commits doubt c

-- files that stand for what these stood for, with the log that stood beside them
abbrev pub LeavesFiles : Files → Files → Type 0
LeavesFiles old c = FilesStandFor (recovered old) c × (c.commits.log ≡ old.commits.log)

-- the file that a store was opened over, with some of the commits that are kept beside it
abbrev pub LeavesOpening : Opening → Files → Type 0
LeavesOpening opening c = FilesStandFor (opening_file opening) c × FindsSome opening.logged opening.log opening.commits opening.doubt c

-- or a file that is closed and has these records, in a tree of this order, and the whole log
abbrev pub LeavesClosed : Opening → ℕ → Contents → Files → Type 0
LeavesClosed opening order records c = Belongs c × HoldsRecords order records (recovered c) × FindsWhole opening.logged opening.log opening.commits c

abbrev pub LeavesEitherBeside : Opening → ℕ → Contents → Files → Type 0
LeavesEitherBeside opening order records c = LeavesOpening opening c ⊎ LeavesClosed opening order records c

-- the file holds these records, in a tree of this order, and no more than a file may have, and a crash now leaves the whole log beside it
pub record HoldsWhole {D : Type 0} (g : Ghosts D) (opening : Opening) (order : ℕ) (records : Contents) (disk : D) : Type 0 where
  pub holds : HoldsRecords order records (g.seen disk).main
  pub whole : (c : Files) → g.may_leave disk c → FindsWhole opening.logged opening.log opening.commits c

-- the same, where the log was then taken away
abbrev pub LeavesEnded : Opening → ℕ → Contents → Files → Type 0
LeavesEnded opening order records c = LeavesEitherBeside opening order records c ⊎ (Belongs c × HoldsRecords order records (recovered c) × (c.commits.log ≡ None))

-- no commit is lost: each is in the log, or the file is closed and has these records, and the log was taken away
abbrev pub LosesNone : Opening → ℕ → Contents → Files → Type 0
LosesNone opening order records c =
    FindsEach opening.logged opening.log opening.commits opening.doubt c ⊎ (Belongs c × HoldsRecords order records (recovered c) × (c.commits.log ≡ None))

-- The file is closed and has these records, in a tree of this order, and the device keeps it, with nothing beside it.
pub record IsSettledWith {D : Type 0} (g : Ghosts D) (order : ℕ) (records : Contents) (disk : D) : Type 0 where
  pub has : HoldsRecords order records (g.seen disk).main
  pub settled : IsSettled g (g.seen disk).main disk
  pub no_log : HasNoLog g disk

-- why a file with a log beside it isn't put right: a fault from outside, or more than a million records
abbrev pub IsSettlingFault : FileFault → Type 0
IsSettlingFault fault = IsOutsideFile fault ⊎ (fault ≡ TooManyRecords)

-- or that the log isn't one that is put over it
abbrev pub IsUnput : Type 0 → FileFault → Type 0
IsUnput Over fault = IsSettlingFault fault ⊎ ((fault ≡ BadCommits) × (Over → ⊥))

-- why a sound table doesn't answer, but for room: a fault from outside
abbrev pub IsTableOutside : TableFault → Type 0
IsTableOutside fault = (fault ≡ tables.Device) ⊎ (fault ≡ tables.Memory)

-- why a log isn't put over a sound table: Line only where it isn't Logged
abbrev pub IsOverlayFault : Type 0 → OverlayFault → Type 0
IsOverlayFault Logged overlaying.Line = Logged → ⊥
IsOverlayFault Logged (overlaying.Table fault) = IsTableOutside fault ⊎ (fault ≡ tables.NoRoom)

-- why no first line of a log is made: a fault from outside, or a file that is none by its length
abbrev pub IsHeadFault : List (List ℕ) → ℕ → FileFault → Type 0
IsHeadFault pages tail fault = IsOutsideFile fault ⊎ ((fault ≡ BadLength) × (HasLength pages tail → ⊥))

-- a table was made of the same, and its device has failed once more where that is the fault
pub record StaysTable {T A : Type 0} (t : TableGhosts T) (old : T) (answer : Result A FileFault) (new : T) : Type 0 where
  pub sound : t.sound new ≡ t.sound old
  pub origin : t.origin new ≡ t.origin old
  pub failures : t.device_failures new ≡ counted (t.device_failures old) (is_device_answer answer)
