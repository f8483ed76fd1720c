-- What the structs that a caller reads stand for.
use Rattle.std.specs.Prelude.{◌≡◌, ℕ, ◌==◌, not, List, [], take, Option, Some, None, Result, Ok, Err, if◌then◌else◌}
use Rattle.rec_types.specs.declared.transaction.TxId.{TxId}
use Rattle.rec_types.specs.declared.transaction.Entry.{Entry}
use Rattle.tx_log.specs.declared.log_record.LogRecord.{LogRecord}
use Rattle.tx_log.specs.declared.log_record.LogRecord.TheVariants.{Update, Compensation, Claim, Unclaim}
use Rattle.recfile_c.specs.declared.shown.KeyBytes.{KeyBytes}
use Rattle.recfile_c.specs.declared.shown.Found.{Found}
use Rattle.recfile_c.specs.declared.shown.LogEntry.{LogEntry}
use Rattle.recfile_c.specs.declared.shown.ListedEntry.{ListedEntry}
use Rattle.recfile_c.specs.declared.shown.TxStatus.{TxStatus}
use Rattle.recfile_c.specs.declared.shown.StepShown.{StepShown}
use Rattle.page_store.specs.declared.step.Step.{Step}
use Rattle.page_store.specs.declared.step.Step.TheVariants.{SetPages, Write, Sync}
use Rattle.record_file.specs.declared.fault.EntriesFault.{EntriesFault}
use Rattle.record_file.specs.declared.fault.Status.{Status}
use Rattle.record_file.specs.declared.fault.Status.TheVariants.{Active, Rolling}

abbrev pub key_shown : KeyBytes → List ℕ
key_shown k = take k.len k.bytes

-- a record, where there is one
abbrev pub shown : Found → Option (List ℕ)
shown f = if f.is_there == 0 then None else Some (take f.len f.bytes)

abbrev pub tx_shown : ℕ → TxId
tx_shown t = record { 0 = t }

-- a record of the log, where there is one
abbrev pub log_shown : LogEntry → Option LogRecord
log_shown e =
    if e.kind == 0 then None
    else (if e.kind == 1 then Some (Update e.lsn e.prev (tx_shown e.tx) (key_shown e.key) (shown e.before) (shown e.after))
    else (if e.kind == 2 then Some (Compensation e.lsn e.prev (tx_shown e.tx) (key_shown e.key) (shown e.after) e.undo_next)
    else (if e.kind == 3 then Some (Claim e.lsn e.prev (tx_shown e.tx) (key_shown e.key) (shown e.before))
    else Some (Unclaim e.lsn e.prev (tx_shown e.tx) (key_shown e.key) e.undo_next))))

-- the number of a kind of record, and 0 where there is none
abbrev pub kind_of : Option LogRecord → ℕ
kind_of None = 0
kind_of (Some (Update lsn prev tx key before after)) = 1
kind_of (Some (Compensation lsn prev tx key restored undo_next)) = 2
kind_of (Some (Claim lsn prev tx key seen)) = 3
kind_of (Some (Unclaim lsn prev tx key undo_next)) = 4

-- the entry shows a record of the log, or that there is none, and its kind is that record's
abbrev pub ShowsLog : LogEntry → Option LogRecord → Type 0
ShowsLog e logged = (log_shown e ≡ logged) × (e.kind ≡ kind_of logged)

-- what an open transaction is doing
abbrev pub status_shown : TxStatus → Status
status_shown s = if s.is_rolling == 0 then Active s.saves s.live else Rolling s.left (not (s.ends == 0))

-- where there is none
abbrev pub no_status : TxStatus
no_status = record { is_rolling = 0; ends = 0; saves = 0; live = 0; left = 0 }

-- what is shown is the entry: a record at its key, with the transaction that owns the key where one does
abbrev pub ShowsEntry : ListedEntry → Entry → Type 0
ShowsEntry told e =
    (key_shown told.key ≡ e.key) × (shown told.value ≡ Some e.value)
    × ((if told.is_owned == 0 then None else Some (tx_shown told.owner)) ≡ e.owner)

-- no entry is shown
abbrev pub IsNoEntry : ListedEntry → Type 0
IsNoEntry told = (told.owner ≡ 0) × (told.is_owned ≡ 0) × (key_shown told.key ≡ []) × (shown told.value ≡ None)

-- the entry that a look found, or none
abbrev pub ShowsFound : Result (Option Entry) EntriesFault → ListedEntry → Type 0
ShowsFound (Ok (Some e)) told = ShowsEntry told e
ShowsFound (Ok None) told = IsNoEntry told
ShowsFound (Err fault) told = IsNoEntry told

-- a step, with the page that it writes
abbrev pub step_shown : StepShown → List ℕ → Step
step_shown s page = if s.kind == 1 then SetPages s.number else (if s.kind == 2 then Write s.number page else Sync)

-- the page that a step writes, and else the one that was there
abbrev pub page_left : Step → List ℕ → List ℕ
page_left (Write n page) before = page
page_left (SetPages n) before = before
page_left Sync before = before

-- where there is none
abbrev pub no_step : StepShown
no_step = record { kind = 0; number = 0 }
