-- A run: calls on a file one after another, each with its answer, and what came to it from outside.
use Rattle.std.specs.Prelude.{◌≡◌, ◌≢◌, ℕ, ◌<◌, Bool, true, false, List, [], ◌∷◌, Option, Some, None, is_some, Result, Ok, IsTrue, IfSome, IfOk, IfErr, OnErr}
use Rattle.std.specs.FinMap as maps
use Rattle.rec_types.specs.History.{log_len}
use Rattle.rec_types.specs.Calls.{with_get, with_list}
use Rattle.rec_types.specs.Table.{counted, greatest_count}
use Rattle.rec_types.specs.declared.transaction.TxId.{TxId}
use Rattle.rec_types.specs.declared.transaction.Entry.{Entry}
use Rattle.tx_log.specs.Log.{record_at}
use Rattle.tx_log.specs.declared.log_record.LogRecord.{LogRecord}
use Rattle.tx_log.specs.declared.phase.BeginFault.{BeginFault}
use Rattle.record_file.specs.declared.fault.PutFault.{PutFault}
use Rattle.record_file.specs.declared.fault.ClaimFault.{ClaimFault}
use Rattle.record_file.specs.declared.fault.RemoveFault.{RemoveFault}
use Rattle.record_file.specs.declared.fault.GetFault.{GetFault}
use Rattle.record_file.specs.declared.fault.SavepointFault.{SavepointFault}
use Rattle.record_file.specs.declared.fault.ReleaseFault.{ReleaseFault}
use Rattle.record_file.specs.declared.fault.RollbackToFault.{RollbackToFault}
use Rattle.record_file.specs.declared.fault.AbortFault.{AbortFault}
use Rattle.record_file.specs.declared.fault.ResumeFault.{ResumeFault}
use Rattle.record_file.specs.declared.fault.CommitFault.{CommitFault}
use Rattle.rec_types.specs.declared.gap.Gap.{Gap}
use Rattle.rec_types.specs.declared.side.Side.{Side}
use Rattle.record_file.specs.declared.fault.CommittedFault.{CommittedFault}
use Rattle.record_file.specs.declared.fault.EntriesFault.{EntriesFault}
use Rattle.record_file.specs.declared.fault.KeysOfFault.{KeysOfFault}
use Rattle.record_file.specs.declared.fault.StatusFault.{StatusFault}
use Rattle.record_file.specs.declared.fault.Status.{Status}
use Rattle.rec_types.specs.declared.table_state.TableState.{Ghosts}
use Rattle.record_file.specs.Abstract.{File, OpenFile, IsKeptFile, Tells, open_of, charged_of, use_of}
use Rattle.tx_log.specs.Owners.{owner_of}
use Rattle.record_file.specs.Asked.{Asks, MayPut, MayRemove, UndoAsks, looked_unless}
use Rattle.record_file.specs.Outside.{by_device, by_memory, named_by, TellsDamage, NeverDamaged}
use Rattle.record_file.specs.Refusals.{put_refusal, claim_refusal, remove_refusal, get_refusal, rollback_refusal, abort_refusal, resume_refusal, committed_refusal, entries_refusal, refusal_by, cause_by, by_file}
use Rattle.record_file.specs.declared.fault.Cause.{Cause}
pub use Rattle.record_file.specs.Seen.{Seen, seen, seen_as, undoubted}
use Rattle.record_file.specs.Steps.{rose, key_refusal, tx_refusal, returning_refusal, resuming_refusal, Accepts, key_change, BeginStep, PutStep, ClaimStep, RemoveStep, GetStep, SavepointStep, ReleaseStep, CommitStep, RollsBackTo, RollbackToStep, Aborts, AbortStep, Resumes, ResumeStep, EntriesStep, EntriesBesideStep, BesideStep, CommittedStep, TellsOwner, TellOwners, KeysOfStep, status_of}
use Rattle.record_file.specs.TableCalls.{KeepsTable, LeavesLog}

-- a call with its arguments, and what it answered
pub data Called : Type 0 where
  Begin : Result TxId BeginFault → Called
  Put : TxId → List ℕ → List ℕ → Result (Option (List ℕ)) PutFault → Called
  Claim : TxId → List ℕ → Result (Option (List ℕ)) ClaimFault → Called
  Remove : TxId → List ℕ → Result (List ℕ) RemoveFault → Called
  Get : TxId → List ℕ → Result (Option (List ℕ)) GetFault → Called
  Savepoint : TxId → Result ℕ SavepointFault → Called
  Release : TxId → ℕ → Result (Unit {0}) ReleaseFault → Called
  RollbackTo : TxId → ℕ → Result ℕ RollbackToFault → Called
  Abort : TxId → Result ℕ AbortFault → Called
  Resume : TxId → Result ℕ ResumeFault → Called
  Commit : TxId → Result (Unit {0}) CommitFault → Called
  Entries : Result (List Entry) EntriesFault → Called
  Beside : Side → Gap → Result (Option Entry) EntriesFault → Called
  EntriesBeside : Side → Gap → Result (List Entry) EntriesFault → Called
  CommittedAt : List ℕ → Result (Option (List ℕ)) CommittedFault → Called
  KeysOf : TxId → Result (List (List ℕ)) KeysOfFault → Called
  StatusOf : TxId → Result Status StatusFault → Called
  Charged : ℕ → Called
  Begun : ℕ → Called
  LogLen : ℕ → Called
  LogUse : ℕ → Called
  RecordAt : ℕ → Option LogRecord → Called
  IntoTable : Option ℕ → Called

-- a call, whether the table's device failed in it, and whether the table refused memory in it
pub record Event : Type 0 where
  pub called : Called
  pub failed : Bool
  pub refused : Bool

-- What stays true of a file, of what a run sees of it.
abbrev pub IsKeptSeen : Seen → Type 0
IsKeptSeen s = IsKeptFile s.sound s.records s.file.limits.records s.file s.log

-- what came from outside and ended the call
abbrev pub cause_in : Called → Option Cause
cause_in (Put t x r answer) = cause_by put_refusal answer
cause_in (Claim t x answer) = cause_by claim_refusal answer
cause_in (Remove t x answer) = cause_by remove_refusal answer
cause_in (Get t x answer) = cause_by get_refusal answer
cause_in (RollbackTo t n answer) = cause_by rollback_refusal answer
cause_in (Abort t answer) = cause_by abort_refusal answer
cause_in (Resume t answer) = cause_by resume_refusal answer
cause_in (Entries answer) = cause_by entries_refusal answer
cause_in (Beside side gap answer) = cause_by entries_refusal answer
cause_in (EntriesBeside side gap answer) = cause_by entries_refusal answer
cause_in (CommittedAt x answer) = cause_by committed_refusal answer
cause_in called = None

-- The call asks the table nothing, and leaves all but the abstract file.
abbrev pub AsksNothing : Seen → Bool → Bool → Seen → Type 0
AsksNothing old failed refused new = (failed ≡ false) × (refused ≡ false) × (new ≡ record old { file = new.file })

-- The same of a commit, which may be kept beside the table.
abbrev pub AsksKeeping : Seen → Bool → Bool → Seen → Type 0
AsksKeeping old failed refused new = (failed ≡ false) × (refused ≡ false) × (new ≡ record old { file = new.file; commits = new.commits })

-- A look leaves all that a run sees.
abbrev pub LooksOnly : Seen → Bool → Bool → Seen → Type 0
LooksOnly old failed refused new = (failed ≡ false) × (refused ≡ false) × (new ≡ old)

-- The call leaves the table's records, the file and the log.
abbrev pub Leaves : Seen → Seen → Type 0
Leaves old new = (new.records ≡ old.records) × (new.file ≡ old.file) × (new.log ≡ old.log)

-- The device failed, and the table refused memory, exactly where the answer says so.
abbrev pub IsCaused : Option Cause → Bool → Bool → Type 0
IsCaused cause failed refused = (failed ≡ by_device cause) × (refused ≡ by_memory cause)

-- The log may refuse memory too.
abbrev pub IsCausedOrLog : Option Cause → Bool → Bool → Type 0
IsCausedOrLog cause failed refused = (failed ≡ by_device cause) × (IsTrue refused → IsTrue (by_memory cause))

pub record Puts (old : Seen) (t : TxId) (x r : List ℕ) (answer : Result (Option (List ℕ)) PutFault) (new : Seen) : Type 0 where
  pub step : IsTrue old.sound → old.failures < greatest_count → PutStep old.file t.0 x r (rose old.failures new.failures) answer new.file
  pub refused : IfSome (key_refusal true old.file t.0 x) (λ refusal. (refusal_by put_refusal answer ≡ Some refusal) × (new ≡ old))
  pub refused_only : IfErr answer (λ fault. IsTrue (by_file (put_refusal fault)) → key_refusal true old.file t.0 x ≡ Some (put_refusal fault))
  pub accepted : IfOk answer (λ before. Accepts old.file old.log (key_change t x before (Some (Some r))) new.file new.log)
  pub opening : IsTrue old.sound → new.file.opening ≡ old.file.opening
  pub err : OnErr answer (Leaves old new)
  pub damages : TellsDamage old.damages (cause_by put_refusal answer) new.damages
  pub asks : Asks (MayPut old.sound old.file x answer) old (cause_by put_refusal answer) new

pub record Claims (old : Seen) (t : TxId) (x : List ℕ) (answer : Result (Option (List ℕ)) ClaimFault) (new : Seen) : Type 0 where
  pub step : IsTrue old.sound → old.failures < greatest_count → ClaimStep old.file t.0 x (rose old.failures new.failures) answer new.file
  pub refused : IfSome (key_refusal true old.file t.0 x) (λ refusal. (refusal_by claim_refusal answer ≡ Some refusal) × (new ≡ old))
  pub refused_only : IfErr answer (λ fault. IsTrue (by_file (claim_refusal fault)) → key_refusal true old.file t.0 x ≡ Some (claim_refusal fault))
  pub accepted : IfOk answer (λ seen. Accepts old.file old.log (key_change t x seen None) new.file new.log)
  pub opening : IsTrue old.sound → new.file.opening ≡ old.file.opening
  pub err : OnErr answer (Leaves old new)
  pub damages : new.damages ≡ named_by old.damages (cause_by claim_refusal answer)
  pub asks : new.calls ≡ looked_unless (is_some (key_refusal true old.file t.0 x)) old.calls

pub record Removes (old : Seen) (t : TxId) (x : List ℕ) (answer : Result (List ℕ) RemoveFault) (new : Seen) : Type 0 where
  pub step : IsTrue old.sound → old.failures < greatest_count → RemoveStep old.file t.0 x (rose old.failures new.failures) answer new.file
  pub refused : IfSome (key_refusal true old.file t.0 x) (λ refusal. (refusal_by remove_refusal answer ≡ Some refusal) × (new ≡ old))
  pub refused_only : IfErr answer (λ fault. IsTrue (by_file (remove_refusal fault)) → key_refusal true old.file t.0 x ≡ Some (remove_refusal fault))
  pub accepted : IfOk answer (λ before. Accepts old.file old.log (key_change t x (Some before) (Some None)) new.file new.log)
  pub opening : IsTrue old.sound → new.file.opening ≡ old.file.opening
  pub err : OnErr answer (Leaves old new)
  pub damages : TellsDamage old.damages (cause_by remove_refusal answer) new.damages
  pub asks : Asks (MayRemove (is_some (key_refusal true old.file t.0 x)) answer) old (cause_by remove_refusal answer) new

pub record Gets (old : Seen) (t : TxId) (x : List ℕ) (answer : Result (Option (List ℕ)) GetFault) (new : Seen) : Type 0 where
  pub step : IsTrue old.sound → old.failures < greatest_count → GetStep old.file t.0 x (rose old.failures new.failures) answer new.file
  pub refused : IfSome (key_refusal false old.file t.0 x) (λ refusal. (refusal_by get_refusal answer ≡ Some refusal) × (new ≡ old))
  pub refused_only : IfErr answer (λ fault. IsTrue (by_file (get_refusal fault)) → key_refusal false old.file t.0 x ≡ Some (get_refusal fault))
  pub same : Leaves old new
  pub damages : new.damages ≡ named_by old.damages (cause_by get_refusal answer)
  pub asks : new.calls ≡ looked_unless (is_some (key_refusal false old.file t.0 x)) old.calls

pub record RollsTo (old : Seen) (t : TxId) (n : ℕ) (answer : Result ℕ RollbackToFault) (new : Seen) : Type 0 where
  pub step : IsTrue old.sound → old.failures < greatest_count → old.refusals < greatest_count → RollbackToStep old.file t.0 n (rose old.failures new.failures) (rose old.refusals new.refusals) answer new.file
  pub rolled : RollsBackTo old.file t.0 n answer new.file
  pub opening : IsTrue old.sound → new.file.opening ≡ old.file.opening
  pub refused : IfSome (returning_refusal old.file t.0 n) (λ refusal. (refusal_by rollback_refusal answer ≡ Some refusal) × (new ≡ old))
  pub damages : TellsDamage old.damages (cause_by rollback_refusal answer) new.damages
  pub asks : UndoAsks old (cause_by rollback_refusal answer) new

pub record IsAborted (old : Seen) (t : TxId) (answer : Result ℕ AbortFault) (new : Seen) : Type 0 where
  pub step : IsTrue old.sound → old.failures < greatest_count → old.refusals < greatest_count → AbortStep old.file t.0 (rose old.failures new.failures) (rose old.refusals new.refusals) answer new.file
  pub rolled : Aborts old.file t.0 answer new.file
  pub opening : IsTrue old.sound → new.file.opening ≡ old.file.opening
  pub refused : IfSome (tx_refusal old.file t.0 None) (λ refusal. (refusal_by abort_refusal answer ≡ Some refusal) × (new ≡ old))
  pub damages : TellsDamage old.damages (cause_by abort_refusal answer) new.damages
  pub asks : UndoAsks old (cause_by abort_refusal answer) new

pub record IsResumed (old : Seen) (t : TxId) (answer : Result ℕ ResumeFault) (new : Seen) : Type 0 where
  pub step : IsTrue old.sound → old.failures < greatest_count → old.refusals < greatest_count → ResumeStep old.file t.0 (rose old.failures new.failures) (rose old.refusals new.refusals) answer new.file
  pub rolled : Resumes old.file t.0 answer new.file
  pub opening : IsTrue old.sound → new.file.opening ≡ old.file.opening
  pub refused : IfSome (resuming_refusal old.file t.0) (λ refusal. (refusal_by resume_refusal answer ≡ Some refusal) × (new ≡ old))
  pub damages : TellsDamage old.damages (cause_by resume_refusal answer) new.damages
  pub asks : UndoAsks old (cause_by resume_refusal answer) new

pub record Lists (old : Seen) (answer : Result (List Entry) EntriesFault) (new : Seen) : Type 0 where
  pub owners : IfOk answer (λ entries. TellOwners old.file entries)
  pub step : IsTrue old.sound → old.failures < greatest_count → EntriesStep old.file (rose old.failures new.failures) answer new.file
  pub same : Leaves old new
  pub damages : new.damages ≡ named_by old.damages (cause_by entries_refusal answer)
  pub asks : new.calls ≡ with_list old.calls

-- a look at the record beside a gap
pub record Neighbours (old : Seen) (side : Side) (gap : Gap) (answer : Result (Option Entry) EntriesFault) (new : Seen) : Type 0 where
  pub owner : IfOk answer (TellsOwner old.file)
  pub step : IsTrue old.sound → old.failures < greatest_count → BesideStep old.file side gap (rose old.failures new.failures) answer new.file
  pub same : Leaves old new
  pub damages : new.damages ≡ named_by old.damages (cause_by entries_refusal answer)
  pub asks : new.calls ≡ with_get old.calls

-- a list of the records on a side of a gap
pub record ListsBeside (old : Seen) (side : Side) (gap : Gap) (answer : Result (List Entry) EntriesFault) (new : Seen) : Type 0 where
  pub owners : IfOk answer (TellOwners old.file)
  pub step : IsTrue old.sound → old.failures < greatest_count → EntriesBesideStep old.file side gap (rose old.failures new.failures) answer new.file
  pub same : Leaves old new
  pub damages : new.damages ≡ named_by old.damages (cause_by entries_refusal answer)
  pub asks : new.calls ≡ with_list old.calls

-- a look at the record that is committed at a key: at that of a key that is owned the table isn't asked
pub record LooksCommitted (old : Seen) (x : List ℕ) (answer : Result (Option (List ℕ)) CommittedFault) (new : Seen) : Type 0 where
  pub step : IsTrue old.sound → old.failures < greatest_count → CommittedStep old.file x (rose old.failures new.failures) answer new.file
  pub same : Leaves old new
  pub damages : new.damages ≡ named_by old.damages (cause_by committed_refusal answer)
  pub asks : new.calls ≡ looked_unless (is_some (owner_of (open_of old.file) old.file.history x)) old.calls

-- the table is given out once no transaction is open, and else the file comes back with the number of those that are
abbrev pub GivesTable : File → Option ℕ → Type 0
GivesTable f None = maps.len f.txs ≡ 0
GivesTable f (Some count) = (maps.len f.txs ≢ 0) × (count ≡ maps.len f.txs)

-- From old the call may answer so, and lead to new.
abbrev pub Answers : Seen → Called → Bool → Bool → Seen → Type 0
Answers old (Begin answer) failed refused new = AsksNothing old failed refused new × BeginStep old.file answer new.file
Answers old (Put t x r answer) failed refused new = IsCausedOrLog (cause_by put_refusal answer) failed refused × Puts old t x r answer new
Answers old (Claim t x answer) failed refused new = IsCausedOrLog (cause_by claim_refusal answer) failed refused × Claims old t x answer new
Answers old (Remove t x answer) failed refused new = IsCausedOrLog (cause_by remove_refusal answer) failed refused × Removes old t x answer new
Answers old (Get t x answer) failed refused new = IsCaused (cause_by get_refusal answer) failed refused × Gets old t x answer new
Answers old (Savepoint t answer) failed refused new = AsksNothing old failed refused new × SavepointStep old.file t.0 answer new.file
Answers old (Release t n answer) failed refused new = AsksNothing old failed refused new × ReleaseStep old.file t.0 n answer new.file
Answers old (RollbackTo t n answer) failed refused new = IsCaused (cause_by rollback_refusal answer) failed refused × RollsTo old t n answer new
Answers old (Abort t answer) failed refused new = IsCaused (cause_by abort_refusal answer) failed refused × IsAborted old t answer new
Answers old (Resume t answer) failed refused new = IsCaused (cause_by resume_refusal answer) failed refused × IsResumed old t answer new
Answers old (Commit t answer) failed refused new = AsksKeeping old failed refused new × CommitStep old.file t.0 answer new.file
Answers old (Entries answer) failed refused new = IsCausedOrLog (cause_by entries_refusal answer) failed refused × Lists old answer new
Answers old (Beside side gap answer) failed refused new = IsCaused (cause_by entries_refusal answer) failed refused × Neighbours old side gap answer new
Answers old (EntriesBeside side gap answer) failed refused new = IsCaused (cause_by entries_refusal answer) failed refused × ListsBeside old side gap answer new
Answers old (CommittedAt x answer) failed refused new = IsCaused (cause_by committed_refusal answer) failed refused × LooksCommitted old x answer new
Answers old (KeysOf t answer) failed refused new = LooksOnly old failed refused new × KeysOfStep old.file t.0 answer
Answers old (StatusOf t answer) failed refused new = LooksOnly old failed refused new × (answer ≡ status_of old.file t.0)
Answers old (Charged count) failed refused new = LooksOnly old failed refused new × (IsTrue old.sound → count ≡ maps.len (charged_of old.file))
Answers old (Begun count) failed refused new = LooksOnly old failed refused new × (count ≡ old.file.begun)
Answers old (LogLen count) failed refused new = LooksOnly old failed refused new × (count ≡ log_len old.file.history)
Answers old (LogUse count) failed refused new = LooksOnly old failed refused new × (count ≡ use_of old.file)
Answers old (RecordAt lsn answer) failed refused new = LooksOnly old failed refused new × (answer ≡ record_at old.log lsn)
Answers old (IntoTable answer) failed refused new = LooksOnly old failed refused new × GivesTable old.file answer

-- an accepted commit
abbrev pub is_commit : Called → Bool
is_commit (Commit t (Ok done)) = true
is_commit called = false

-- What a run sees happen in a call. The table's counts rise by what came from outside, and by nothing else, and by the calls
-- that the answer tells of; over a sound table no page is damaged; the log tells what became of the records; none but an
-- accepted commit is kept beside the table.
pub record Happens (old : Seen) (e : Event) (new : Seen) : Type 0 where
  pub undamaged : NeverDamaged old.sound (cause_in e.called)
  pub failures : new.failures ≡ counted old.failures e.failed
  pub refusals : new.refusals ≡ counted old.refusals e.refused
  pub sound : new.sound ≡ old.sound
  pub told : Tells old.sound old.records old.log new.records new.log
  pub logged : new.logged ≡ old.logged
  pub commits : is_commit e.called ≡ false → new.commits ≡ old.commits
  pub answer : Answers old e.called e.failed e.refused new

-- What stays true of a file is true of it before and after.
pub record Step (old : Seen) (e : Event) (new : Seen) : Type 0 where
  pub kept : IsKeptSeen old
  pub keeps : IsKeptSeen new
  pub happens : Happens old e new

-- one step after another
abbrev pub Run : Seen → List Event → Seen → Type 0
Run old [] new = new ≡ old
Run old (e ∷ es) new = (mid : Seen) × Step old e mid × Run mid es new

-- the theorem of a call

-- the call as an event: the device failed in it exactly where its answer says so
abbrev pub event_of : Called → Bool → Event
event_of called refused = record { called = called; failed = by_device (cause_in called); refused = refused }

-- What a call leaves of the file itself, its table with it: all, where the file alone refuses the call; and all but the abstract
-- file, where the call asks the table nothing. A listing always asks it.
abbrev pub SparesFile : {T : Type 0} → OpenFile T → Called → OpenFile T → Type 0
SparesFile old (Put t x r answer) new = IfSome (key_refusal true old.file t.0 x) (λ _. new ≡ old)
SparesFile old (Claim t x answer) new = IfSome (key_refusal true old.file t.0 x) (λ _. new ≡ old)
SparesFile old (Remove t x answer) new = IfSome (key_refusal true old.file t.0 x) (λ _. new ≡ old)
SparesFile old (Get t x answer) new = IfSome (key_refusal false old.file t.0 x) (λ _. new ≡ old)
SparesFile old (RollbackTo t n answer) new = IfSome (returning_refusal old.file t.0 n) (λ _. new ≡ old)
SparesFile old (Abort t answer) new = IfSome (tx_refusal old.file t.0 None) (λ _. new ≡ old)
SparesFile old (Resume t answer) new = IfSome (resuming_refusal old.file t.0) (λ _. new ≡ old)
SparesFile old (Entries answer) new = Unit {0}
SparesFile old (Beside side gap answer) new = Unit {0}
SparesFile old (EntriesBeside side gap answer) new = Unit {0}
SparesFile old (CommittedAt x answer) new = Unit {0}
SparesFile old called new = KeepsTable old new × LeavesLog old new

-- From old the call has this answer, and leads to new. A run sees it happen, whether or not the table refused memory in it; what
-- the table was made of stays; and the file itself is spared where its table isn't asked.
pub record Made {T : Type 0} (t : Ghosts T) (old : OpenFile T) (called : Called) (new : OpenFile T) : Type 0 where
  pub refused : Bool
  pub happens : Happens (seen t old) (event_of called refused) (seen t new)
  pub origin : t.origin new.table ≡ t.origin old.table
  pub spares : SparesFile old called new
