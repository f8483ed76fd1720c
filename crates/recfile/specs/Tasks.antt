-- What doing a task of the program leaves, and its status.
use Rattle.std.specs.Prelude.{◌≡◌, ◌⊎◌, ℕ, Bool, true, false, List, Option, Some, None, Result, Ok, Err, IsTrue, if◌then◌else◌}
use Rattle.std.specs.Result.{is_err}
use Rattle.std.specs.Io.KnownBytes.{Appends}
use Rattle.rec_types.specs.Contents.{Contents}
use Rattle.rec_types.specs.LimitBounds.{Bounds, most_records}
use Rattle.page_store.specs.StoreCalls.{StaysStore}
use Rattle.page_store.specs.declared.store_state.StoreState.{Ghosts as StoreGhosts}
use Rattle.page_journal.specs.Files.{Files}
use Rattle.page_journal.specs.declared.disk_state.DiskState.{Ghosts as DiskGhosts}
use Rattle.btree_insert.specs.declared.tree.Tree.{Tree}
use Rattle.command_text.specs.Dump.{dump_text}
use Rattle.page_rescue.specs.Rescue.{Saves}
use Rattle.page_rescue.specs.declared.rescue.Rescued.{Rescued}
use Rattle.record_texts.specs.declared.form.Form.{Form}
use Rattle.recfile.specs.Dumped.{IsOfListing, IsPartWritten, text_in}
use Rattle.recfile.specs.Filling.{CanFill, FillsAt, LooksAt}
use Rattle.recfile.specs.FilesAt.{Copies, Creates, IsFoundAt, RunsAt, TellsOfFile, TellsRecords, TellsTree}
use Rattle.recfile.specs.Streams.{CallsMade}
use Rattle.recfile.specs.TreeLine.{counts_line}
use Rattle.recfile.specs.Whole.{empty_file}
use Rattle.recfile.specs.WholeSession.{RunsFile}
use Rattle.recfile.specs.declared.copying.CopyingFault.{CopyingFault}
use Rattle.recfile.specs.declared.dump.DumpFault.{DumpFault}
use Rattle.recfile.specs.declared.dump.DumpFault.TheVariants.{File, Write}
use Rattle.file_session.specs.declared.file_fault.FileFault.{FileFault}
use Rattle.recfile.specs.declared.page_file.TreeCounts.{TreeCounts}
use Rattle.recfile.specs.declared.manner.Feed.TheVariants.{Lines}
use Rattle.recfile.specs.declared.manner.Manner.{Manner}
use Rattle.recfile.specs.declared.words.Task.{Task}
use Rattle.recfile.specs.declared.words.Task.TheVariants as tasks

-- the line of a check, and the text of a dump
abbrev pub IsTreeLine : List ℕ → Type 0
IsTreeLine text = (counts : TreeCounts) × (text ≡ counts_line counts)

abbrev pub IsDump : Option Form → List ℕ → Type 0
IsDump form text = (records : List (List ℕ × List ℕ)) × (text ≡ text_in form records)

-- the script of what is saved of these pages
abbrev pub IsSaved : List (List ℕ) → List ℕ → Type 0
IsSaved pages text = (rescued : Rescued) × Saves pages rescued × (text ≡ dump_text rescued.records.items)

-- a text of that kind is written whole; or none, where the file has a fault; or a front of one, where the writer has one
abbrev pub Writes : (List ℕ → Type 0) → Option (List ℕ) → Option (List ℕ) → Result (Unit {0}) DumpFault → Type 0
Writes Is held holds (Ok done) = (text : List ℕ) × Is text × Appends held holds text
Writes Is held holds (Err (File fault)) = holds ≡ held
Writes Is held holds (Err Write) = (text : List ℕ) × Is text × IsPartWritten held holds text

-- the same of a text that is written while the records are listed: where the listing has a fault, a front of one may be written
abbrev pub WritesListed : (List ℕ → Type 0) → Option (List ℕ) → Option (List ℕ) → Result (Unit {0}) DumpFault → Type 0
WritesListed Is held holds (Ok done) = (text : List ℕ) × Is text × Appends held holds text
WritesListed Is held holds (Err (File fault)) = (holds ≡ held) ⊎ (IsOfListing fault × ((text : List ℕ) × Is text × IsPartWritten held holds text))
WritesListed Is held holds (Err Write) = (text : List ℕ) × Is text × IsPartWritten held holds text

-- the status of a text
abbrev pub text_status : Result (Unit {0}) DumpFault → ℕ
text_status (Ok done) = 0
text_status (Err (File fault)) = 1
text_status (Err Write) = 3

-- a text about the file at a path was asked for, and this is the status
abbrev pub WritesText : {S : Type 0} → (Option (List ℕ) → Option (List ℕ) → Result (Unit {0}) DumpFault → Type 0) → StoreGhosts S → (Files → Type 0) → (Tree → Contents → ℕ → Result (Unit {0}) DumpFault → Type 0) → Option (List ℕ) → Option (List ℕ) → ℕ → Type 0
WritesText Written g At Told held holds status =
    (done : Result (Unit {0}) DumpFault) × Written held holds done × TellsOfFile g At most_records Told held holds done × (status ≡ text_status done)

-- What was saved of the file at a path: no file is found there and nothing is written, or what is saved of its pages is.
-- Nothing is written to the file.
pub record RescuesAt {S : Type 0} (g : StoreGhosts S) (At : Files → Type 0) (held holds : Option (List ℕ)) (done : Result (Unit {0}) DumpFault) : Type 0 where
  pub opened : S
  pub found : IsTrue (g.steady opened) → IsFoundAt At (g.pages opened) (g.tail opened)
  pub store : S
  pub saved : IsTrue (g.steady opened) → Writes (IsSaved (g.pages opened)) held holds done
  pub stays : StaysStore g opened store

abbrev pub Rescues : {S : Type 0} → StoreGhosts S → (Files → Type 0) → Option (List ℕ) → Option (List ℕ) → Result (Unit {0}) DumpFault → Type 0
Rescues g At held holds done =
    ((fault : FileFault) × (done ≡ Err (File fault)) × (holds ≡ held)) ⊎ RescuesAt g At held holds done

-- the manner of the session that loads records
abbrev pub loading : Manner
loading = record { strict = true; feed = Lines }

-- A session over the file at a path, or none is opened there, or put right, and nothing is read and written.
abbrev pub RunsOver : {D : Type 0} → DiskGhosts D → (Files → Type 0) → Bool → Manner → Bounds → Option (List ℕ) → Option (List ℕ) → Option (List ℕ) → Option (List ℕ) → CallsMade → CallsMade → ℕ → Type 0
RunsOver disks At durable manner limits left leaves held holds before after status =
    ((status ≡ 1) × (leaves ≡ left) × (holds ≡ held) × (after ≡ before)) ⊎ RunsAt disks At durable manner limits left leaves held holds before after status

-- Records are loaded into the file at a path. A file without records is filled with them, where they are sorted and no more
-- than it may have; else, and where the file at the path was looked at and is none such, a session runs the script that
-- puts them in one transaction, up to its first refusal, by which none of them stays. Its replies go nowhere. No file may be
-- found.
abbrev pub LoadsAt : {D : Type 0} → DiskGhosts D → (Files → Type 0) → Bounds → CallsMade → CallsMade → ℕ → Type 0
LoadsAt disks At limits before after status =
    (records : List (List ℕ × List ℕ))
    × ((status ≡ 1) ⊎ (FillsAt disks At limits records status
    ⊎ ((CanFill limits records → LooksAt disks At) × ((leaves : Option (List ℕ)) × RunsOver disks At false loading limits (Some (dump_text records)) leaves None None before after status))))

-- the status where it was asked whether a file is whole
abbrev pub told_status : Result Bool DumpFault → ℕ
told_status (Ok whole) = if whole then 0 else 1
told_status (Err fault) = text_status (Err fault)

-- What doing a task leaves of what the reader has and of what the writer holds, and its status: a file is made, opened and
-- read at the path that was asked for, or there is none, and nothing is read and written then; a session has the limits
-- and the manner that were asked for, and closes its file so that no crash loses it, nor what it committed where it is durable; what a check and a dump write is a
-- line and a script; a copy has the pages of the file.
abbrev pub DoesTask : {D S : Type 0} → DiskGhosts D → StoreGhosts S → (List ℕ → Files → Type 0) → Task → Option (List ℕ) → Option (List ℕ) → Option (List ℕ) → Option (List ℕ) → CallsMade → CallsMade → ℕ → Type 0
DoesTask disks stores at (tasks.Create order path) left leaves held holds before after status =
    (leaves ≡ left) × (holds ≡ held)
    × ((made : Result (Unit {0}) FileFault) × Creates stores order made × (status ≡ (if is_err made then 1 else 0)))
DoesTask disks stores at (tasks.Run limits manner durable path) left leaves held holds before after status = RunsOver disks (at path.now) durable manner limits left leaves held holds before after status
DoesTask disks stores at (tasks.Check path) left leaves held holds before after status =
    (leaves ≡ left) × WritesText (Writes IsTreeLine) stores (at path.now) (TellsTree held holds) held holds status
DoesTask disks stores at (tasks.Copy path to) left leaves held holds before after status =
    (leaves ≡ left) × (holds ≡ held)
    × ((done : Result (Unit {0}) CopyingFault) × Copies stores (at path.now) most_records done × (status ≡ (if is_err done then 1 else 0)))
DoesTask disks stores at (tasks.Dump form path) left leaves held holds before after status =
    (leaves ≡ left) × WritesText (WritesListed (IsDump form)) stores (at path.now) (TellsRecords form held holds) held holds status
DoesTask disks stores at (tasks.Rescue path) left leaves held holds before after status =
    (leaves ≡ left)
    × ((done : Result (Unit {0}) DumpFault) × Writes (IsDump None) held holds done × Rescues stores (at path.now) held holds done × (status ≡ text_status done))
DoesTask disks stores at (tasks.Load separator limits path) left leaves held holds before after status = (holds ≡ held) × ((status ≡ 3) ⊎ LoadsAt disks (at path.now) limits before after status)
DoesTask disks stores at (tasks.Tell telling path) left leaves held holds before after status = (leaves ≡ left) × ((told : Result Bool DumpFault) × (status ≡ told_status told))
DoesTask disks stores at (tasks.Memory limits manner) left leaves held holds before after status =
    RunsFile manner left leaves held holds before after (empty_file limits) None status

-- The words asked for a task, and it was done; or they asked for nothing: nothing is read, and the status is that of help
-- that was asked for, or of a fault of the words.
abbrev pub DoesAny : {D S : Type 0} → DiskGhosts D → StoreGhosts S → (List ℕ → Files → Type 0) → Option (List ℕ) → Option (List ℕ) → Option (List ℕ) → Option (List ℕ) → CallsMade → CallsMade → ℕ → Type 0
DoesAny disks stores at left leaves held holds before after status =
    ((task : Task) × DoesTask disks stores at task left leaves held holds before after status) ⊎ ((leaves ≡ left) × ((status ≡ 0) ⊎ (status ≡ 2)))
