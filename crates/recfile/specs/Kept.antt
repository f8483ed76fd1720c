-- What a session over a page file that closes safely leaves, and what a crash of it leaves.
use Rattle.std.specs.Prelude.{◌≡◌, ℕ, List, Option, None, is_some}
use Rattle.rec_types.specs.Contents.{Contents}
use Rattle.page_journal.specs.Files.{PageFile}
use Rattle.page_journal.specs.declared.disk_state.DiskState.{Ghosts}
use Rattle.rec_types.specs.LimitBounds.{Bounds}
use Rattle.file_session.specs.FileFaults.{file_by_device}
use Rattle.recfile.specs.Streams.{CallsMade}
use Rattle.recfile.specs.WholeSession.{RunsAny}
use Rattle.recfile.specs.declared.manner.Manner.{Manner}
use Rattle.file_session.specs.declared.file_fault.FileFault.{FileFault}
use Rattle.file_session.specs.Closing.{CountsClosing, IsKeptWith, LeavesEither}

-- The file is closed with these records, in a tree of this order, where no fault stopped that. A crash at any moment leaves the old file or that one.
pub record ClosesSafely {D : Type 0} (g : Ghosts D) (old : PageFile) (disk : D) (unclosed : Option FileFault) (order : ℕ) (records : Contents) : Type 0 where
  pub any_moment : LeavesEither g old order records disk
  pub kept : unclosed ≡ None → IsKeptWith g order records disk

-- A session over a file with these limits, whatever its records, over a disk: it has failed as often as the session saw, and then as the closing tells.
pub record RunsOn {D : Type 0} (g : Ghosts D) (manner : Manner) (limits : Bounds) (left leaves held holds : Option (List ℕ))
    (before after : CallsMade) (unclosed : Option FileFault) (status : ℕ) (disk : D) : Type 0 where
  pub run : RunsAny manner limits left leaves held holds before after unclosed status
  pub failures : CountsClosing run.2.new.failures (is_some unclosed) (file_by_device unclosed) (g.failures disk)
