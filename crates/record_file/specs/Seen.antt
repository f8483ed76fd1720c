-- What is seen of a file from outside: by a run, and by what its calls ask of the table.
use Rattle.std.specs.Prelude.{ℕ, Bool, false, List, [], if◌then◌else◌}
use Rattle.rec_types.specs.Contents.{Contents}
use Rattle.rec_types.specs.Table.{Damages}
use Rattle.rec_types.specs.declared.table_calls.TableCalls.{TableCalls}
use Rattle.rec_types.specs.declared.table_state.TableState.{Ghosts}
use Rattle.tx_log.specs.declared.log_record.LogRecord.{LogRecord}
use Rattle.record_file.specs.Abstract.{File, OpenFile}

-- the abstract file, the log, the table's records, whether the table is sound, and what it has counted: its failures, its
-- refusals of memory, its damaged pages and its calls; whether commits are kept beside it before they are answered, those that were,
-- and the text of the one that is in doubt
pub record Seen : Type 0 where
  pub file : File
  pub log : List LogRecord
  pub records : Contents
  pub sound : Bool
  pub failures : ℕ
  pub refusals : ℕ
  pub damages : Damages
  pub calls : TableCalls
  pub logged : Bool
  pub commits : List (List (List ℕ))
  pub doubt : List ℕ

-- the commits that are kept beside a table, where they are; of one that isn't sound nothing is known of them
abbrev pub commits_of : {T : Type 0} → Bool → Ghosts T → T → List (List (List ℕ))
commits_of logged t table = if logged then (if t.sound table then t.commits (t.origin table) else []) else []

-- and the text of the one that is in doubt there
abbrev pub doubt_of : {T : Type 0} → Bool → Ghosts T → T → List ℕ
doubt_of logged t table = if logged then (if t.sound table then t.doubt (t.origin table) else []) else []

-- where commits are kept before they are answered, or aren't
abbrev pub seen_as : {T : Type 0} → Bool → Ghosts T → OpenFile T → Seen
seen_as logged t f = record { file = f.file; log = f.log; records = t.contents f.table; sound = t.sound f.table; failures = t.device_failures f.table; refusals = t.memory_refusals f.table; damages = t.damages f.table; calls = t.calls f.table; logged = logged; commits = commits_of logged t f.table; doubt = doubt_of logged t f.table }

-- without the commit that is in doubt: no call of a run tells of it
abbrev pub undoubted : Seen → Seen
undoubted s = record s { doubt = [] }

abbrev pub seen : {T : Type 0} → Ghosts T → OpenFile T → Seen
seen t f = seen_as false t f
