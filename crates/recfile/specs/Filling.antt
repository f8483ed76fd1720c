-- What filling the file at a path with sorted records leaves.
use Rattle.std.specs.Prelude.{◌≡◌, ℕ, ◌≤◌, List, length, Option, false, is_some, IfSome, IsTrue}
use Rattle.std.specs.FinMap as maps
use Rattle.rec_types.specs.Contents.{Contents}
use Rattle.rec_types.specs.History.{replay}
use Rattle.rec_types.specs.LimitBounds.{Bounds}
use Rattle.page_journal.specs.Files.{PageFile, Files, Belongs, recovered}
use Rattle.page_journal.specs.declared.disk_state.DiskState.{Ghosts}
use Rattle.btree_node.specs.Lists.{Element, Ascends}
use Rattle.btree_insert.specs.declared.tree.Tree.{Tree}
use Rattle.btree_delete.specs.TableView.{IsClosed}
use Rattle.btree_load.specs.Trees.{puts}
use Rattle.file_session.specs.Opened.{IsOutsideFile}
use Rattle.file_session.specs.FileFaults.{file_by_device}
use Rattle.recfile.specs.Kept.{ClosesSafely}
use Rattle.file_session.specs.Closing.{CountsClosing, LeavesAs}
use Rattle.file_session.specs.Settling.{SettlesAt}
use Rattle.recfile.specs.Statuses.{exit_status_of}
use Rattle.file_session.specs.declared.file_fault.FileFault.{FileFault}

-- the records that a script leaves of an empty file, which puts them in one transaction
abbrev pub loaded : List Element → Contents
loaded records = replay maps.empty (puts records)

-- a closed file without records, of that order
abbrev pub IsBlankFile : ℕ → PageFile → Type 0
IsBlankFile order file = (tree : Tree) × (version : ℕ) × (tree.order ≡ order) × IsClosed version file.pages file.tail tree maps.empty

-- A file without records was filled with these. A crash at any moment of it leaves the old file, or the one that has them all.
pub record FillsBlank {D : Type 0} (g : Ghosts D) (old : PageFile) (records : List Element) (disk : D) (unclosed : Option FileFault) : Type 0 where
  pub order : ℕ
  pub blank : IsBlankFile order old
  pub closes : ClosesSafely g old disk unclosed order (loaded records)

-- The same over a disk that was just opened, and its status.
pub record FillsDisk {D : Type 0} (g : Ghosts D) (records : List Element) (opened : D) (unclosed : Option FileFault) (disk : D) (status : ℕ) : Type 0 where
  pub own : IsTrue (g.steady opened) → Belongs (g.began opened)
  pub filled : IsTrue (g.steady opened) → FillsBlank g (recovered (g.began opened)) records disk unclosed
  pub fault : IfSome unclosed IsOutsideFile
  pub failures : CountsClosing (g.failures opened) (is_some unclosed) (file_by_device unclosed) (g.failures disk)
  pub status_is : status ≡ exit_status_of false (is_some unclosed) false

-- and over the disk that was opened at a path
pub record FillsAt {D : Type 0} (g : Ghosts D) (At : Files → Type 0) (limits : Bounds) (records : List Element) (status : ℕ) : Type 0 where
  pub few : length records ≤ limits.records
  pub opened : D
  pub settles : SettlesAt g At opened
  pub unclosed : Option FileFault
  pub disk : D
  pub fills : FillsDisk g records opened unclosed disk status

-- a disk that was opened at a path, and put right, to see whether it is such a file, and was left as it was then
pub record LooksAt {D : Type 0} (g : Ghosts D) (At : Files → Type 0) : Type 0 where
  pub opened : D
  pub settles : SettlesAt g At opened
  pub left : D
  pub untouched : IsTrue (g.steady opened) → LeavesAs g (g.began opened) left

-- records with which a file can be filled: their keys ascend, and it may have so many
abbrev pub CanFill : Bounds → List Element → Type 0
CanFill limits records = Ascends records × (length records ≤ limits.records)
