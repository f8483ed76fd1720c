-- What closing a page file leaves, and what a crash of it leaves.
use Rattle.std.specs.Prelude.{◌≡◌, ◌⊎◌, ℕ, Bool, true, false}
use Rattle.rec_types.specs.Contents.{Contents}
use Rattle.page_store.specs.Guards.{Guard, Unguarded, Unsealed, Sealed, Stopped}
use Rattle.page_store.specs.Opening.{Opening}
use Rattle.btree_node.specs.Layout.{second_version}
use Rattle.btree_insert.specs.declared.tree.Tree.{Tree}
use Rattle.btree_delete.specs.TableView.{IsClosed}
use Rattle.page_journal.specs.Files.{PageFile, Files, Belongs, recovered}
use Rattle.page_journal.specs.Crash.{IsSettled, StandsAs, FilesStandFor}
use Rattle.page_journal.specs.Recovery.{IsForeign}
use Rattle.page_journal.specs.declared.disk_state.DiskState.{Ghosts}
use Rattle.rec_types.specs.Table.{counted}
use Rattle.file_session.specs.Opened.{IsFirstOrOutside, IsOutsideFile}
use Rattle.file_session.specs.declared.file_fault.FileFault.{FileFault}
use Rattle.file_session.specs.declared.file_fault.FileFault.TheVariants.{BadJournal}

-- the file that a store was opened over
abbrev pub opening_file : Opening → PageFile
opening_file opening = record { pages = opening.pages; tail = opening.tail }

-- the file is closed and has these records, in a tree of this order
abbrev pub HasRecords : ℕ → Contents → PageFile → Type 0
HasRecords order records file = (tree : Tree) × (tree.order ≡ order) × IsClosed second_version file.pages file.tail tree records

-- a crash at any moment since the disk was opened leaves files that stand for this file
abbrev pub LeavesOld : {D : Type 0} → Ghosts D → PageFile → D → Type 0
LeavesOld g old disk = (c : Files) → g.left_since disk 0 c → FilesStandFor old c

-- or for one that is closed and has these records, in a tree of this order
abbrev pub LeavesEither : {D : Type 0} → Ghosts D → PageFile → ℕ → Contents → D → Type 0
LeavesEither g old order records disk = (c : Files) → g.left_since disk 0 c → FilesStandFor old c ⊎ (Belongs c × HasRecords order records (recovered c))

-- a crash at any moment since the disk was opened leaves files that stand for what these stood for
abbrev pub LeavesAs : {D : Type 0} → Ghosts D → Files → D → Type 0
LeavesAs g old disk = (c : Files) → g.left_since disk 0 c → StandsAs old c

-- the file is closed, has these records in a tree of this order, and the device keeps it with no side file
pub record IsKeptWith {D : Type 0} (g : Ghosts D) (order : ℕ) (records : Contents) (disk : D) : Type 0 where
  pub has : HasRecords order records (g.seen disk).main
  pub settled : IsSettled g (g.seen disk).main disk

-- how many calls a store has refused by itself
abbrev pub refused_calls : Guard → ℕ
refused_calls Unguarded = 0
refused_calls (Unsealed refusals) = refusals
refused_calls (Sealed kept refusals) = refusals
refused_calls (Stopped refusals) = refusals

-- old pages are kept aside
abbrev pub is_sealed : Guard → Bool
is_sealed Unguarded = false
is_sealed (Unsealed refusals) = false
is_sealed (Sealed kept refusals) = true
is_sealed (Stopped refusals) = false

-- How often a disk has failed after a closing: once more where that is the closing's fault, and where a closing that had a fault was taken back, once more if that failed too.
pub record CountsClosing (before : ℕ) (failed device : Bool) (after : ℕ) : Type 0 where
  pub again : Bool
  pub failures : after ≡ counted (counted before device) again
  pub once : failed ≡ false → again ≡ false

-- a fault from outside, or a side file of another file
abbrev pub IsOutsideDisk : Files → FileFault → Type 0
IsOutsideDisk files fault = IsOutsideFile fault ⊎ ((fault ≡ BadJournal) × IsForeign files)

-- why a file wasn't opened: its side file is of another file, or the file that the two stand for has a fault
abbrev pub IsUnopened : Files → ℕ → FileFault → Type 0
IsUnopened files limit fault =
    ((fault ≡ BadJournal) × IsForeign files) ⊎ IsFirstOrOutside (recovered files).pages (recovered files).tail limit fault
