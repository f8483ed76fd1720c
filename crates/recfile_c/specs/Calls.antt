-- What the calls do to a file behind a handle.
use Rattle.std.specs.Prelude.{◌≡◌, ℕ, ℤ, pos, List, Option, Some, None, Result, Ok, Err, IsTrue}
use Rattle.std.specs.FinMap as maps
use Rattle.rec_types.specs.declared.key.KeyFault.{KeyFault}
use Rattle.rec_types.specs.declared.key.KeyFault.TheVariants.{Empty, TooLong}
use Rattle.rec_types.specs.declared.record.RecordFault.{RecordFault}
use Rattle.rec_types.specs.declared.transaction.TxId.{TxId}
use Rattle.tx_log.specs.declared.phase.BeginFault.{BeginFault}
use Rattle.tx_log.specs.declared.log_record.LogRecord.{LogRecord}
use Rattle.record_file.specs.Abstract.{OpenFile, records_of}
use Rattle.record_file.specs.Runs.{Called, Made}
use Rattle.record_file.specs.Runs as calls
use Rattle.record_file.specs.declared.fault.PutFault.{PutFault}
use Rattle.record_file.specs.declared.fault.ClaimFault.{ClaimFault}
use Rattle.record_file.specs.declared.fault.RemoveFault.{RemoveFault}
use Rattle.record_file.specs.declared.fault.GetFault.{GetFault}
use Rattle.record_file.specs.declared.fault.CommittedFault.{CommittedFault}
use Rattle.record_file.specs.declared.fault.SavepointFault.{SavepointFault}
use Rattle.record_file.specs.declared.fault.ReleaseFault.{ReleaseFault}
use Rattle.record_file.specs.declared.fault.RollbackToFault.{RollbackToFault}
use Rattle.record_file.specs.declared.fault.AbortFault.{AbortFault}
use Rattle.record_file.specs.declared.fault.ResumeFault.{ResumeFault}
use Rattle.record_file.specs.declared.fault.CommitFault.{CommitFault}
use Rattle.record_file.specs.declared.fault.StatusFault.{StatusFault}
use Rattle.record_file.specs.declared.fault.Status.{Status}
use Rattle.recfile_c.specs.declared.file_table.FileTable.{FileTable}
use Rattle.recfile_c.specs.declared.held.Held.{Held}
use Rattle.recfile_c.specs.declared.held.Held.TheVariants.{Open}
use Rattle.recfile_c.specs.declared.held.Session.{Session}
use Rattle.recfile_c.specs.declared.outcome.Outcome.{Outcome}
use Rattle.recfile_c.specs.declared.shown.TxStatus.{TxStatus}
use Rattle.recfile_c.specs.FileTables.{file_tables, is_sound}
use Rattle.recfile_c.specs.Answers.{found_in, taken_in, number_in, begun_in, TellsStatus}
use Rattle.record_file.specs.Refusals.{begin_refusal, put_refusal, claim_refusal, remove_refusal, get_refusal, committed_refusal, savepoint_refusal, release_refusal, rollback_refusal, abort_refusal, resume_refusal, commit_refusal, status_refusal}
use Rattle.recfile_c.specs.Outcomes.{key_outcome, just, empty_key, long_key, long_record, ok, outcome_by}

abbrev pub FileState : Type 0
FileState = OpenFile FileTable

-- On an open file the step. Else nothing is done, and the answer says so.
abbrev pub OnSession : Type 0 → Held → Held → (Session → Session → Type 0) → Type 0
OnSession nothing (Open old) (Open new) step = step old new
OnSession nothing (Open old) new step = ⊥
OnSession nothing held new step = nothing × (new ≡ held)

-- the same of a handle, behind which nothing may lie
abbrev pub OnHandle : Type 0 → Option Held → Option Held → (Session → Session → Type 0) → Type 0
OnHandle nothing (Some old) (Some new) step = OnSession nothing old new step
OnHandle nothing (Some old) None step = ⊥
OnHandle nothing None new step = nothing × (new ≡ None)

-- a step of the file, which leaves the lists
abbrev pub InFile : (FileState → FileState → Type 0) → Session → Session → Type 0
InFile step old new = step old.file new.file × (new ≡ record old { file = new.file })

-- what a call of a file does, behind a handle as anywhere
abbrev pub MadeThere : FileState → Called → FileState → Type 0
MadeThere old called new = Made file_tables old called new

-- a look, which leaves the file
abbrev pub Looked : FileState → Called → FileState → Type 0
Looked old called new = MadeThere old called new × (new ≡ old)

-- the calls

abbrev pub Begin : ℤ → ℕ → FileState → FileState → Type 0
Begin status tx old new =
    (answer : Result TxId BeginFault) × (status ≡ (outcome_by begin_refusal answer).status) × (tx ≡ begun_in answer)
    × MadeThere old (calls.Begin answer) new

abbrev pub Put : TxId → List ℕ → List ℕ → Outcome → Option (List ℕ) → FileState → FileState → Type 0
Put t x r told before old new =
    (answer : Result (Option (List ℕ)) PutFault) × (told ≡ outcome_by put_refusal answer) × (before ≡ found_in answer)
    × MadeThere old (calls.Put t x r answer) new

-- bytes that are no key, and bytes that are no record
abbrev pub PutBytes : TxId → Result (List ℕ) KeyFault → Result (List ℕ) RecordFault → Outcome → Option (List ℕ) → FileState → FileState → Type 0
PutBytes t (Err Empty) record_bytes told before old new = (told ≡ just empty_key) × (before ≡ None) × (new ≡ old)
PutBytes t (Err TooLong) record_bytes told before old new = (told ≡ just long_key) × (before ≡ None) × (new ≡ old)
PutBytes t (Ok x) (Err fault) told before old new = (told ≡ just long_record) × (before ≡ None) × (new ≡ old)
PutBytes t (Ok x) (Ok r) told before old new = Put t x r told before old new

abbrev pub Claim : TxId → List ℕ → Outcome → Option (List ℕ) → FileState → FileState → Type 0
Claim t x told seen old new =
    (answer : Result (Option (List ℕ)) ClaimFault) × (told ≡ outcome_by claim_refusal answer) × (seen ≡ found_in answer)
    × MadeThere old (calls.Claim t x answer) new

abbrev pub ClaimBytes : TxId → Result (List ℕ) KeyFault → Outcome → Option (List ℕ) → FileState → FileState → Type 0
ClaimBytes t (Err Empty) told seen old new = (told ≡ just empty_key) × (seen ≡ None) × (new ≡ old)
ClaimBytes t (Err TooLong) told seen old new = (told ≡ just long_key) × (seen ≡ None) × (new ≡ old)
ClaimBytes t (Ok x) told seen old new = Claim t x told seen old new

abbrev pub Remove : TxId → List ℕ → Outcome → Option (List ℕ) → FileState → FileState → Type 0
Remove t x told taken old new =
    (answer : Result (List ℕ) RemoveFault) × (told ≡ outcome_by remove_refusal answer) × (taken ≡ taken_in answer)
    × MadeThere old (calls.Remove t x answer) new

abbrev pub RemoveBytes : TxId → Result (List ℕ) KeyFault → Outcome → Option (List ℕ) → FileState → FileState → Type 0
RemoveBytes t (Err Empty) told taken old new = (told ≡ just empty_key) × (taken ≡ None) × (new ≡ old)
RemoveBytes t (Err TooLong) told taken old new = (told ≡ just long_key) × (taken ≡ None) × (new ≡ old)
RemoveBytes t (Ok x) told taken old new = Remove t x told taken old new

abbrev pub Get : TxId → List ℕ → Outcome → Option (List ℕ) → FileState → FileState → Type 0
Get t x told found old new =
    (answer : Result (Option (List ℕ)) GetFault) × (told ≡ outcome_by get_refusal answer) × (found ≡ found_in answer)
    × MadeThere old (calls.Get t x answer) new

abbrev pub GetBytes : TxId → Result (List ℕ) KeyFault → Outcome → Option (List ℕ) → FileState → FileState → Type 0
GetBytes t (Err Empty) told found old new = (told ≡ just empty_key) × (found ≡ None) × (new ≡ old)
GetBytes t (Err TooLong) told found old new = (told ≡ just long_key) × (found ≡ None) × (new ≡ old)
GetBytes t (Ok x) told found old new = Get t x told found old new

abbrev pub Committed : List ℕ → Outcome → Option (List ℕ) → FileState → FileState → Type 0
Committed x told found old new =
    (answer : Result (Option (List ℕ)) CommittedFault) × (told ≡ outcome_by committed_refusal answer) × (found ≡ found_in answer)
    × MadeThere old (calls.CommittedAt x answer) new

abbrev pub CommittedBytes : Result (List ℕ) KeyFault → Outcome → Option (List ℕ) → FileState → FileState → Type 0
CommittedBytes (Err fault) told found old new = (told ≡ key_outcome fault) × (found ≡ None) × (new ≡ old)
CommittedBytes (Ok x) told found old new = Committed x told found old new

abbrev pub Savepoint : TxId → ℤ → ℕ → FileState → FileState → Type 0
Savepoint t status n old new =
    (answer : Result ℕ SavepointFault) × (status ≡ (outcome_by savepoint_refusal answer).status) × (n ≡ number_in answer)
    × MadeThere old (calls.Savepoint t answer) new

abbrev pub Release : TxId → ℕ → ℤ → FileState → FileState → Type 0
Release t n status old new =
    (answer : Result (Unit {0}) ReleaseFault) × (status ≡ (outcome_by release_refusal answer).status)
    × MadeThere old (calls.Release t n answer) new

abbrev pub RollbackTo : TxId → ℕ → Outcome → ℕ → FileState → FileState → Type 0
RollbackTo t n told undone old new =
    (answer : Result ℕ RollbackToFault) × (told ≡ outcome_by rollback_refusal answer) × (undone ≡ number_in answer)
    × MadeThere old (calls.RollbackTo t n answer) new

abbrev pub Abort : TxId → Outcome → ℕ → FileState → FileState → Type 0
Abort t told undone old new =
    (answer : Result ℕ AbortFault) × (told ≡ outcome_by abort_refusal answer) × (undone ≡ number_in answer)
    × MadeThere old (calls.Abort t answer) new

abbrev pub Resume : TxId → Outcome → ℕ → FileState → FileState → Type 0
Resume t told undone old new =
    (answer : Result ℕ ResumeFault) × (told ≡ outcome_by resume_refusal answer) × (undone ≡ number_in answer)
    × MadeThere old (calls.Resume t answer) new

abbrev pub Commit : TxId → ℤ → FileState → FileState → Type 0
Commit t status old new =
    (answer : Result (Unit {0}) CommitFault) × (status ≡ (outcome_by commit_refusal answer).status)
    × MadeThere old (calls.Commit t answer) new

-- looks

abbrev pub StatusOf : TxId → ℤ → TxStatus → FileState → FileState → Type 0
StatusOf t status told old new =
    (answer : Result Status StatusFault) × (status ≡ (outcome_by status_refusal answer).status) × TellsStatus answer told
    × Looked old (calls.StatusOf t answer) new

abbrev pub Charged : ℤ → ℕ → FileState → FileState → Type 0
Charged status n old new = (status ≡ pos ok) × Looked old (calls.Charged n) new

-- how many records there are, of a sound table
abbrev pub CountsRecords : ℤ → ℕ → FileState → FileState → Type 0
CountsRecords status n old new = (status ≡ pos ok) × (IsTrue (is_sound old.table) → n ≡ maps.len (records_of old.file)) × (new ≡ old)

abbrev pub Begun : ℤ → ℕ → FileState → FileState → Type 0
Begun status n old new = (status ≡ pos ok) × Looked old (calls.Begun n) new

abbrev pub LogLen : ℤ → ℕ → FileState → FileState → Type 0
LogLen status n old new = (status ≡ pos ok) × Looked old (calls.LogLen n) new

abbrev pub LogUse : ℤ → ℕ → FileState → FileState → Type 0
LogUse status n old new = (status ≡ pos ok) × Looked old (calls.LogUse n) new

abbrev pub RecordAt : ℕ → ℤ → Option LogRecord → FileState → FileState → Type 0
RecordAt lsn status entry old new = (status ≡ pos ok) × Looked old (calls.RecordAt lsn entry) new
