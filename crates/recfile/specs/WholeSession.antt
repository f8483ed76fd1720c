-- A script over a file, and the end of what it leaves open.
use Rattle.std.specs.Prelude.{◌≡◌, ℕ, Bool, true, false, List, [], Option, None, is_some, IfSome, Result, Ok, Err, MatchResult, OnOk, OnErr, IsTrue}
use Rattle.std.specs.Result.{is_err}
use Rattle.rec_types.specs.Contents.{Contents}
use Rattle.rec_types.specs.History.{replay}
use Rattle.rec_types.specs.LimitBounds.{Bounds}
use Rattle.rec_types.specs.Calls.{no_calls}
use Rattle.rec_types.specs.Table.{no_damage}
use Rattle.btree_delete.specs.TableView.{TableView}
use Rattle.record_file.specs.Abstract.{new_file, open_of}
use Rattle.record_file.specs.Runs.{Seen}
use Rattle.recfile.specs.Ending.{EndingAsks, EndsAll, StopsEnding, end_cause, rest_of}
use Rattle.file_session.specs.Opened.{IsOutsideFile}
use Rattle.recfile.specs.Run.{Ran}
use Rattle.recfile.specs.Shell.{RanLines}
use Rattle.recfile.specs.Statuses.{exit_status_of}
use Rattle.recfile.specs.Streams.{CallsMade, TellsFailed, run_read_fault, run_write_fault}
use Rattle.recfile.specs.declared.endings.EndFault.{EndFault}
use Rattle.file_session.specs.declared.file_fault.FileFault.{FileFault}
use Rattle.recfile.specs.declared.manner.Feed.{Feed}
use Rattle.recfile.specs.declared.manner.Feed.TheVariants.{Lines, Script}
use Rattle.recfile.specs.declared.manner.Manner.{Manner}
use Rattle.recfile.specs.declared.script.RunFault.{RunFault}
use Rattle.recfile.specs.declared.script.RunFault.TheVariants.{Script as Faulted, Refused, Flush}

-- what became of the lines that a reader has, by how they come
abbrev pub RanBy : Feed → Bool → Option (List ℕ) → Option (List ℕ) → Option (List ℕ) → Option (List ℕ) → Seen → Seen → Result ℕ RunFault → Type 0
RanBy Script strict left leaves held holds old new answer = Ran strict left leaves held holds old new answer
RanBy Lines strict left leaves held holds old new answer = RanLines strict left leaves held holds old new answer

-- and by the manner of a session
abbrev pub RanAs : Manner → Option (List ℕ) → Option (List ℕ) → Option (List ℕ) → Option (List ℕ) → Seen → Seen → Result ℕ RunFault → Type 0
RanAs manner left leaves held holds old new answer = RanBy manner.feed manner.strict left leaves held holds old new answer

-- The lines, run in a manner, lead from a file to mid, with their answer; then every open transaction is ended, or one
-- was stopped, and no commit is kept or comes into doubt. Where all are, the records are what the changes of the others leave.
pub record IsSession (manner : Manner) (left leaves held holds : Option (List ℕ)) (old mid : Seen)
    (answer : Result ℕ RunFault) (ended : Result ℕ EndFault) (new : Seen) : Type 0 where
  pub script : RanAs manner left leaves held holds old mid answer
  pub ending : MatchResult ended (λ count. EndsAll mid.file count new.file)
      (λ fault. StopsEnding mid.file fault new.file)
  pub asks : EndingAsks mid (end_cause ended) new
  pub commits : new.commits ≡ mid.commits
  pub doubt : new.doubt ≡ mid.doubt
  pub records : IsTrue mid.sound → OnOk ended
      (new.records ≡ replay mid.file.opening (rest_of (open_of mid.file) mid.file.history))

-- whether the lines ended at one that asks for a flush
abbrev pub is_flush : Result ℕ RunFault → Bool
is_flush (Ok done) = false
is_flush (Err (Faulted fault)) = false
is_flush (Err (Refused line)) = false
is_flush (Err Flush) = true

-- a page file with these records, over a steady store that failed so often; nothing was begun
abbrev pub opened_file : Contents → Bounds → ℕ → Seen
opened_file contents limits failures = record {
  file = new_file contents limits;
  log = [];
  records = contents;
  sound = true;
  failures = failures;
  refusals = 0;
  damages = no_damage;
  calls = no_calls;
  logged = false;
  commits = [];
  doubt = [];
}

-- the table has counted no fault and no call yet
abbrev pub IsUncounted : TableView → Type 0
IsUncounted table = (table.refusals ≡ 0) × (table.damages ≡ no_damage) × (table.calls ≡ no_calls)

-- A session over a file in which nothing was begun; then the file was closed, or a fault from outside stopped that, or a
-- transaction couldn't be ended, and it wasn't tried. The status tells which. That a read or a write failed is the answer
-- exactly where one did, by the calls that were made before and after.
pub record RunsFile (manner : Manner) (left leaves held holds : Option (List ℕ)) (before after : CallsMade) (old : Seen) (unclosed : Option FileFault) (status : ℕ) : Type 0 where
  pub answer : Result ℕ RunFault
  pub ended : Result ℕ EndFault
  pub mid : Seen
  pub new : Seen
  pub session : IsSession manner left leaves held holds old mid answer ended new
  pub status_is : status ≡ exit_status_of (is_err ended) (is_some unclosed) (is_err answer)
  pub fault : IfSome unclosed IsOutsideFile
  pub untried : OnErr ended (unclosed ≡ None)
  pub failed : TellsFailed before (run_read_fault answer) (run_write_fault answer) after

-- a session over a file with these limits, whatever its records
abbrev pub RunsAny : Manner → Bounds → Option (List ℕ) → Option (List ℕ) → Option (List ℕ) → Option (List ℕ) → CallsMade → CallsMade → Option FileFault → ℕ → Type 0
RunsAny manner limits left leaves held holds before after unclosed status =
    (old : Seen) × (old.file ≡ new_file old.records limits) × RunsFile manner left leaves held holds before after old unclosed status × (old.logged ≡ false)

-- A session that began with a file of sound records. Where every transaction was ended the file closes, by what that
-- means, with the records that are left.
pub record EndsFile (manner : Manner) (left leaves held holds : Option (List ℕ)) (before after : CallsMade) (old : Seen)
    (Closes : Contents → Type 0) (unclosed : Option FileFault) (status : ℕ) : Type 0 where
  pub run : RunsFile manner left leaves held holds before after old unclosed status
  pub sound : IsTrue run.mid.sound
  pub closes : OnOk run.ended (Closes run.new.records)
