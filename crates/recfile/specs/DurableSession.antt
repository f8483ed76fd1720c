-- What a session leaves whose commits are kept before they are answered, and what an opening finds after a stop of it.
use Rattle.std.specs.Prelude.{◌≡◌, ◌⊎◌, ℕ, true, ◌≤◌, Bool, ◌&&◌, not, is_some, List, ◌++◌, Option, None, Result, OnOk}
use Rattle.std.specs.FinMap as maps
use Rattle.std.specs.Result.{is_ok}
use Rattle.rec_types.specs.Contents.{Contents}
use Rattle.rec_types.specs.LimitBounds.{Bounds}
use Rattle.page_journal.specs.Files.{Files}
use Rattle.record_file.specs.Abstract.{new_file}
use Rattle.page_journal.specs.declared.disk_state.DiskState.{Ghosts}
use Rattle.command_text.specs.Units.{Write}
use Rattle.record_file.specs.Durable.{overlay}
use Rattle.record_file.specs.Runs.{Seen}
use Rattle.file_session.specs.Beside.{IsSettledWith}
use Rattle.file_session.specs.LogOver.{Finds}
use Rattle.file_session.specs.Overlaid.{writes_in_turn}
use Rattle.recfile.specs.SessionCommits.{MakesCommits, in_doubt}
use Rattle.recfile.specs.Streams.{CallsMade}
use Rattle.recfile.specs.WholeSession.{RunsFile, is_flush, opened_file}
use Rattle.recfile.specs.declared.endings.EndFault.{EndFault}
use Rattle.file_session.specs.declared.file_fault.FileFault.{FileFault}
use Rattle.recfile.specs.declared.manner.Manner.{Manner}
use Rattle.recfile.specs.declared.script.RunFault.{RunFault}

-- a page file with these records, beside which a log was begun with these commits; no transaction was begun
abbrev pub logged_file : Contents → Bounds → ℕ → List (List (List ℕ)) → Seen
logged_file contents limits failures commits = record (opened_file contents limits failures) { logged = true; commits = commits }

-- whether the lines ended at a flush, and the file was closed
abbrev pub flushed_by : Result ℕ RunFault → Result ℕ EndFault → Option FileFault → Bool
flushed_by answer ended unclosed = is_ok ended && (not (is_some unclosed) && is_flush answer)

-- A session over a file with these limits, whatever its records, beside which a log was begun.
pub record RunsLogged (manner : Manner) (limits : Bounds) (left leaves held holds : Option (List ℕ)) (before after : CallsMade)
    (unclosed : Option FileFault) (status : ℕ) (flushed : Bool) : Type 0 where
  pub old : Seen
  pub file : old.file ≡ new_file old.records limits
  pub logged : old.logged ≡ true
  pub run : RunsFile manner left leaves held holds before after old unclosed status
  pub flush : flushed ≡ flushed_by run.answer run.ended unclosed

-- some of these commits, from the first on
abbrev pub AreFirstCommits : List (List Write) → List (List Write) → Type 0
AreFirstCommits first all = (rest : List (List Write)) × (all ≡ first ++ rest)

-- an opening finds what some of these commits make of these records, from the first on, in their order; the one in doubt comes last
abbrev pub FindsCommits : ℕ → Contents → List (List Write) → List (List Write) → Files → Type 0
FindsCommits order contents kept doubted c = (first : List (List Write)) × AreFirstCommits first (kept ++ doubted) × Finds order (overlay contents (writes_in_turn first)) c

-- it finds what all of them make, with the one in doubt or without it
abbrev pub FindsEachCommit : ℕ → Contents → List (List Write) → List (List Write) → Files → Type 0
FindsEachCommit order contents kept doubted c =
    (all : List (List Write)) × ((all ≡ kept) ⊎ (all ≡ kept ++ doubted)) × Finds order (overlay contents (writes_in_turn all)) c

-- A session over a file with these records, in a tree of this order, whose commits are kept before they are answered; then the file was closed and the log taken away, or a fault stopped that. A crash at any moment since the log was begun leaves what some of the commits make, from the first on, the one in doubt last; at the end it leaves what all make, with that one or without, whatever failed, and after the closing the file has what all make by itself.
pub record EndsDurably {D : Type 0} (g : Ghosts D) (manner : Manner) (left leaves held holds : Option (List ℕ)) (before after : CallsMade)
    (order : ℕ) (contents : Contents) (limits : Bounds) (failures : ℕ) (commits : List (List (List ℕ))) (unclosed : Option FileFault) (status : ℕ) (flushed : Bool) (disk : D) : Type 0 where
  pub run : RunsFile manner left leaves held holds before after (logged_file contents limits failures commits) unclosed status
  pub flush : flushed ≡ flushed_by run.answer run.ended unclosed
  pub made : MakesCommits (logged_file contents limits failures commits) run.mid
  pub records : OnOk run.ended (run.new.records ≡ overlay contents (writes_in_turn made.kept))
  pub within : OnOk run.ended (maps.len run.new.records ≤ limits.records)
  pub any_moment : (c : Files) → g.left_since disk 0 c → FindsCommits order contents made.kept (in_doubt made.doubted) c
  pub lasts : (c : Files) → g.may_leave disk c → FindsEachCommit order contents made.kept (in_doubt made.doubted) c
  pub closed : OnOk run.ended (unclosed ≡ None → IsSettledWith g order (overlay contents (writes_in_turn made.kept)) disk)
