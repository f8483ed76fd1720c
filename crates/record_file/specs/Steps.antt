-- The steps of the abstract file: from an old file a call may give this answer and go on to a new one. Where the
-- table's device failed during the call it says so by `failed`, where it refused memory by `refused`.
use Rattle.std.specs.Prelude.{◌≡◌, ℕ, ◌+◌, ◌-◌, ◌<◌, ◌≤◌, zero, Bool, true, false, nat_lt, nat_le, ◌&&◌, if◌then◌else◌, List, [], ◌∷◌, ◌++◌, map, length, reverse, take, Option, Some, None, option_map, Result, Ok, Err, IsSome, is_none}
use Rattle.std.specs.Global.{Vec}
use Rattle.std.specs.FinMap as maps
use Rattle.rec_types.specs.History.{Change, live_from, take_back, take_newest, own_count}
use Rattle.rec_types.specs.declared.transaction.TxId.{TxId}
use Rattle.rec_types.specs.declared.transaction.Entry.{Entry}
use Rattle.tx_log.specs.Transactions.{Transactions, Tx, fresh, place_of_savepoint, depth_of, most_savepoints}
use Rattle.tx_log.specs.declared.phase.Rollback.{Rollback}
use Rattle.tx_log.specs.Owners.{owner_of, keys_owned}
use Rattle.tx_log.specs.LogState.{active_with, rolling_to, places_of, finished}
use Rattle.tx_log.specs.declared.phase.Phase.{Phase}
use Rattle.tx_log.specs.declared.phase.Phase.TheVariants as phases
use Rattle.tx_log.specs.declared.phase.BeginFault.{BeginFault}
use Rattle.tx_log.specs.declared.phase.BeginFault.TheVariants as begin_faults
use Rattle.record_file.specs.declared.fault.Cause.{Cause}
use Rattle.record_file.specs.declared.fault.Cause.TheVariants as causes
use Rattle.record_file.specs.declared.fault.Stop.{Stop}
use Rattle.record_file.specs.declared.fault.PutFault.{PutFault}
use Rattle.record_file.specs.declared.fault.ClaimFault.{ClaimFault}
use Rattle.record_file.specs.declared.fault.RemoveFault.{RemoveFault}
use Rattle.record_file.specs.declared.fault.GetFault.{GetFault}
use Rattle.record_file.specs.declared.fault.SavepointFault.{SavepointFault}
use Rattle.record_file.specs.declared.fault.ReleaseFault.{ReleaseFault}
use Rattle.record_file.specs.declared.fault.RollbackToFault.{RollbackToFault}
use Rattle.record_file.specs.declared.fault.AbortFault.{AbortFault}
use Rattle.record_file.specs.declared.fault.ResumeFault.{ResumeFault}
use Rattle.record_file.specs.declared.fault.CommitFault.{CommitFault}
use Rattle.rec_types.specs.Ordered.{beside, all_beside}
use Rattle.record_file.specs.Committed.{committed}
use Rattle.record_file.specs.declared.fault.CommittedFault.{CommittedFault}
use Rattle.record_file.specs.declared.fault.CommittedFault.TheVariants as committed_faults
use Rattle.rec_types.specs.declared.gap.Gap.{Gap}
use Rattle.rec_types.specs.declared.side.Side.{Side}
use Rattle.record_file.specs.declared.fault.EntriesFault.{EntriesFault}
use Rattle.record_file.specs.declared.fault.EntriesFault.TheVariants as entries_faults
use Rattle.record_file.specs.declared.fault.KeysOfFault.{KeysOfFault}
use Rattle.record_file.specs.declared.fault.KeysOfFault.TheVariants as keys_faults
use Rattle.record_file.specs.declared.fault.StatusFault.{StatusFault}
use Rattle.record_file.specs.declared.fault.StatusFault.TheVariants as status_faults
use Rattle.record_file.specs.declared.fault.Status.{Status}
use Rattle.record_file.specs.declared.fault.Status.TheVariants as statuses
use Rattle.tx_log.specs.declared.log_record.LogRecord.{LogRecord}
use Rattle.tx_log.specs.Log.{change_record, last_of}
use Rattle.record_file.specs.declared.refusal.Refusal.{Refusal}
use Rattle.record_file.specs.declared.refusal.Refusal.TheVariants as refusals
use Rattle.record_file.specs.Refusals.{put_refusal, claim_refusal, remove_refusal, get_refusal, savepoint_refusal, release_refusal, rollback_refusal, abort_refusal, resume_refusal, commit_refusal, cause_by}
use Rattle.record_file.specs.Abstract.{File, records_of, open_of, tx_of, phase_at, use_of, held_by, is_full, with_change}

-- whether a number rose
abbrev pub rose : ℕ → ℕ → Bool
rose old new = nat_lt old new

-- begin

abbrev pub BeginStep : File → Result TxId BeginFault → File → Type 0
BeginStep old (Ok tx) new = (old.begun < old.limits.begins) × (tx.0 ≡ old.begun + 1) × (new ≡ record old { begun = old.begun + 1; txs = maps.insert old.txs (old.begun + 1) fresh })
BeginStep old (Err begin_faults.BeginsSpent) new = (old.limits.begins ≤ old.begun) × (new ≡ old)
BeginStep old (Err begin_faults.Memory) new = (old.begun < old.limits.begins) × (new ≡ old)

-- what the file alone refuses a call for

-- its transaction has to be active; `more` is what else it is refused for
abbrev pub active_refusal : Option Refusal → Option Phase → Option Refusal
active_refusal more None = Some refusals.NoSuchTx
active_refusal more (Some (phases.Rolling ends)) = Some refusals.Rolling
active_refusal more (Some phases.Active) = more

-- the same of a transaction of the file
abbrev pub tx_refusal : File → ℕ → Option Refusal → Option Refusal
tx_refusal f t more = active_refusal more (phase_at f t)

-- no other transaction may hold its key, and if it changes, the log needs room for that and for taking it back
abbrev pub held_refusal : Bool → File → Option ℕ → Option Refusal
held_refusal changes f None = if changes && nat_lt f.limits.log_records (use_of f + 2) then Some refusals.LogFull else None
held_refusal changes f (Some owner) = Some (refusals.Held (record { 0 = owner }))

-- all of it, of a call at a key
abbrev pub key_refusal : Bool → File → ℕ → List ℕ → Option Refusal
key_refusal changes f t x = tx_refusal f t (held_refusal changes f (held_by f t x))

-- The new file has this history and these transactions. Its opening contents are read off the table, and a table that
-- isn't sound may have others.
abbrev pub Becomes : File → List Change → Transactions → File → Type 0
Becomes old history txs new = new ≡ record old { opening = new.opening; history = history; txs = txs }

-- A change at a key: whose it is, the key, what stood there, and what stands there now.
pub record KeyChange : Type 0 where
  pub tx : TxId
  pub key : List ℕ
  pub before : Option (List ℕ)
  pub after : Option (Option (List ℕ))

abbrev pub key_change : TxId → List ℕ → Option (List ℕ) → Option (Option (List ℕ)) → KeyChange
key_change tx key before after = record { tx = tx; key = key; before = before; after = after }

-- An accepted change is live at the end of the history, and its record at the end of the log, with the next number, from
-- which it leads to the newest record of its transaction; so it is over any table.
pub record Accepts (old : File) (log : List LogRecord) (change : KeyChange) (new : File) (grown : List LogRecord) : Type 0 where
  pub history : Becomes old (old.history ++ record { tx = change.tx.0; key = change.key; after = change.after; live = true } ∷ []) old.txs new
  pub logged : grown ≡ log ++ change_record (length log + 1) (last_of change.tx.0 (reverse log)) change.tx change.key change.before change.after ∷ []

-- calls at a key

-- Why such a call did nothing: what the file alone refuses it for (`first`) comes before the device's failure, that before
-- what the records refuse it for, where they do (`barred`), and that before a want of memory.
abbrev pub RefusedFor : Option Refusal → Bool → Bool → Refusal → Type 0
RefusedFor first barred failed (refusals.Failed causes.Device) = (first ≡ None) × (failed ≡ true)
RefusedFor first barred failed refusals.Full = (first ≡ None) × (failed ≡ false) × (barred ≡ true)
RefusedFor first barred failed refusals.Absent = (first ≡ None) × (failed ≡ false) × (barred ≡ true)
RefusedFor first barred failed (refusals.Failed causes.Memory) = (first ≡ None) × (failed ≡ false) × (barred ≡ false)
RefusedFor first barred failed (refusals.Failed (causes.Damaged page)) = ⊥
RefusedFor first barred failed refusal = (first ≡ Some refusal) × (failed ≡ false)

-- A put answers the record that stood there, and its change is live at the end of the history.
abbrev pub PutStep : File → ℕ → List ℕ → List ℕ → Bool → Result (Option (List ℕ)) PutFault → File → Type 0
PutStep old t x r failed (Ok before) new = (key_refusal true old t x ≡ None) × (failed ≡ false) × (is_full old x ≡ false) × (before ≡ maps.get (records_of old) x) × (new ≡ with_change old t x (Some (Some r)))
PutStep old t x r failed (Err fault) new = RefusedFor (key_refusal true old t x) (is_full old x) failed (put_refusal fault) × (new ≡ old)

-- A claim answers the record that stands there, and is live at the end of the history.
abbrev pub ClaimStep : File → ℕ → List ℕ → Bool → Result (Option (List ℕ)) ClaimFault → File → Type 0
ClaimStep old t x failed (Ok seen) new = (key_refusal true old t x ≡ None) × (failed ≡ false) × (is_full old x ≡ false) × (seen ≡ maps.get (records_of old) x) × (new ≡ with_change old t x None)
ClaimStep old t x failed (Err fault) new = RefusedFor (key_refusal true old t x) (is_full old x) failed (claim_refusal fault) × (new ≡ old)

-- A removal answers the record that it takes out.
abbrev pub RemoveStep : File → ℕ → List ℕ → Bool → Result (List ℕ) RemoveFault → File → Type 0
RemoveStep old t x failed (Ok before) new = (key_refusal true old t x ≡ None) × (failed ≡ false) × (maps.get (records_of old) x ≡ Some before) × (new ≡ with_change old t x (Some None))
RemoveStep old t x failed (Err fault) new = RefusedFor (key_refusal true old t x) (is_none (maps.get (records_of old) x)) failed (remove_refusal fault) × (new ≡ old)

-- A look answers the record that stands there.
abbrev pub GetStep : File → ℕ → List ℕ → Bool → Result (Option (List ℕ)) GetFault → File → Type 0
GetStep old t x failed (Ok found) new = (key_refusal false old t x ≡ None) × (failed ≡ false) × (found ≡ maps.get (records_of old) x) × (new ≡ old)
GetStep old t x failed (Err fault) new = RefusedFor (key_refusal false old t x) false failed (get_refusal fault) × (new ≡ old)

-- savepoints

abbrev pub places_at : File → ℕ → List ℕ
places_at f t = places_of (tx_of f t)

-- a savepoint is refused where there are as many as there may be
abbrev pub saving_refusal : File → ℕ → Option Refusal
saving_refusal f t = tx_refusal f t (if nat_lt (depth_of (tx_of f t)) most_savepoints then None else Some refusals.TooDeep)

-- a savepoint keeps how many changes the transaction has made, and answers how many savepoints there are now
abbrev pub SavepointStep : File → ℕ → Result ℕ SavepointFault → File → Type 0
SavepointStep old t (Ok n) new = (saving_refusal old t ≡ None) × (n ≡ depth_of (tx_of old t) + 1) × (new ≡ record old { txs = maps.insert old.txs t (active_with (places_at old t ++ own_count old.history t ∷ [])) })
SavepointStep old t (Err fault) new = (saving_refusal old t ≡ Some (savepoint_refusal fault)) × (new ≡ old)

-- savepoint n is there
abbrev pub releasing_refusal : File → ℕ → ℕ → Option Refusal
releasing_refusal f t n = tx_refusal f t (if nat_lt 0 n && nat_le n (depth_of (tx_of f t)) then None else Some refusals.NoSuchSave)

-- savepoint n and those above it are dropped
abbrev pub ReleaseStep : File → ℕ → ℕ → Result (Unit {0}) ReleaseFault → File → Type 0
ReleaseStep old t n (Ok done) new = (releasing_refusal old t n ≡ None) × (new ≡ record old { txs = maps.insert old.txs t (active_with (take (n - 1) (places_at old t))) })
ReleaseStep old t n (Err fault) new = (releasing_refusal old t n ≡ Some (release_refusal fault)) × (new ≡ old)

-- commit

-- the transaction has ended, and its changes stay
abbrev pub CommitStep : File → ℕ → Result (Unit {0}) CommitFault → File → Type 0
CommitStep old t (Ok done) new = (tx_refusal old t None ≡ None) × (new ≡ record old { txs = maps.remove old.txs t })
CommitStep old t (Err fault) new = (tx_refusal old t None ≡ Some (commit_refusal fault)) × (new ≡ old)

-- rollback

-- What ended a call: the device exactly where it failed, memory exactly where the table refused it, and else nothing.
abbrev pub EndsBy : Bool → Bool → Option Cause → Type 0
EndsBy failed refused None = (failed ≡ false) × (refused ≡ false)
EndsBy failed refused (Some causes.Device) = (failed ≡ true) × (refused ≡ false)
EndsBy failed refused (Some causes.Memory) = (failed ≡ false) × (refused ≡ true)
EndsBy failed refused (Some (causes.Damaged page)) = ⊥

-- every live change from place p on was taken back
abbrev pub TakesBack : File → ℕ → ℕ → Transactions → ℕ → File → Type 0
TakesBack old t p txs undone new = (undone ≡ live_from old.history t p) × Becomes old (take_back old.history t p) txs new

-- of those changes the newest `undone` were taken back, fewer than there are
abbrev pub StopsAt : File → ℕ → ℕ → Transactions → ℕ → ℕ → File → Type 0
StopsAt old t p txs undone left new =
    (undone < live_from old.history t p) × (left ≡ live_from old.history t p - undone)
    × Becomes old (take_newest old.history t p undone) txs new

abbrev pub to_of : Option Rollback → ℕ
to_of None = 0
to_of (Some r) = r.to

-- the place that a rollback under way goes back to
abbrev pub rolling_place : Option Tx → ℕ
rolling_place None = 0
rolling_place (Some tx) = to_of tx.rollback

-- a rollback to place p leaves these transactions where it is done, and those where it stops
abbrev pub Rolls : File → ℕ → ℕ → Transactions → Transactions → Result ℕ Stop → File → Type 0
Rolls old t p done stopped (Ok undone) new = TakesBack old t p done undone new
Rolls old t p done stopped (Err stop) new = StopsAt old t p stopped stop.undone stop.left new

-- one that is under way takes back what it has left
abbrev pub RollsBack : File → ℕ → Result ℕ Stop → File → Type 0
RollsBack old t answer new = Rolls old t (rolling_place (tx_of old t)) (finished old.txs t (tx_of old t)) old.txs answer new

-- The rollback of an active transaction to savepoint n, which ends the transaction or leaves it there, as a whole.
abbrev pub RollsFrom : File → ℕ → ℕ → Bool → Result ℕ Stop → File → Type 0
RollsFrom old t n ends answer new =
    Rolls old t (place_of_savepoint (places_at old t) n) (if ends then maps.remove old.txs t else maps.insert old.txs t (active_with (take n (places_at old t))))
    (maps.insert old.txs t (rolling_to (places_at old t) n ends)) answer new

-- A call that rolls back so, unless it is refused for `first`: it is done, or stops on the way.
abbrev pub NotRolled : Option Refusal → (Result ℕ Stop → File → Type 0) → File → Refusal → File → Type 0
NotRolled first rolls old (refusals.Stopped undone left cause) new = (first ≡ None) × rolls (Err (record { undone = undone; left = left; cause = cause })) new
NotRolled first rolls old refusal new = (first ≡ Some refusal) × (new ≡ old)

abbrev pub RollsUnless : {F : Type 0} → (F → Refusal) → Option Refusal → (Result ℕ Stop → File → Type 0) → File → Result ℕ F → File → Type 0
RollsUnless refusal_of first rolls old (Ok undone) new = (first ≡ None) × rolls (Ok undone) new
RollsUnless refusal_of first rolls old (Err fault) new = NotRolled first rolls old (refusal_of fault) new

-- a rollback goes to a savepoint that is there, or to the beginning
abbrev pub returning_refusal : File → ℕ → ℕ → Option Refusal
returning_refusal f t n = tx_refusal f t (if nat_le n (depth_of (tx_of f t)) then None else Some refusals.NoSuchSave)

-- Back to savepoint n, which stays; those above it are dropped at once. So it is over any table.
abbrev pub RollsBackTo : File → ℕ → ℕ → Result ℕ RollbackToFault → File → Type 0
RollsBackTo old t n answer new = RollsUnless rollback_refusal (returning_refusal old t n) (RollsFrom old t n false) old answer new

-- over a sound table the opening contents stay, and it is known what ended the call
abbrev pub RollbackToStep : File → ℕ → ℕ → Bool → Bool → Result ℕ RollbackToFault → File → Type 0
RollbackToStep old t n failed refused answer new =
    RollsBackTo old t n answer new × (new.opening ≡ old.opening) × EndsBy failed refused (cause_by rollback_refusal answer)

-- back to the beginning; the transaction then has ended
abbrev pub Aborts : File → ℕ → Result ℕ AbortFault → File → Type 0
Aborts old t answer new = RollsUnless abort_refusal (tx_refusal old t None) (RollsFrom old t zero true) old answer new

abbrev pub AbortStep : File → ℕ → Bool → Bool → Result ℕ AbortFault → File → Type 0
AbortStep old t failed refused answer new =
    Aborts old t answer new × (new.opening ≡ old.opening) × EndsBy failed refused (cause_by abort_refusal answer)

-- what a call is refused for that goes on with a rollback
abbrev pub rolling_refusal : Option Phase → Option Refusal
rolling_refusal None = Some refusals.NoSuchTx
rolling_refusal (Some (phases.Rolling ends)) = None
rolling_refusal (Some phases.Active) = Some refusals.NotRolling

abbrev pub resuming_refusal : File → ℕ → Option Refusal
resuming_refusal f t = rolling_refusal (phase_at f t)

-- a rollback under way goes on from where it stopped
abbrev pub Resumes : File → ℕ → Result ℕ ResumeFault → File → Type 0
Resumes old t answer new = RollsUnless resume_refusal (resuming_refusal old t) (RollsBack old t) old answer new

abbrev pub ResumeStep : File → ℕ → Bool → Bool → Result ℕ ResumeFault → File → Type 0
ResumeStep old t failed refused answer new =
    Resumes old t answer new × (new.opening ≡ old.opening) × EndsBy failed refused (cause_by resume_refusal answer)

-- looking

-- a record with the transaction that owns its key
abbrev pub entry_with : (ℕ → Bool) → List Change → List ℕ × List ℕ → Entry
entry_with is_open h e = record { key = e.0; value = e.1; owner = option_map (λ t. let tx : TxId = record { 0 = t } in tx) (owner_of is_open h e.0) }

abbrev pub entry_of : File → List ℕ × List ℕ → Entry
entry_of f = entry_with (open_of f) f.history

-- the records in key order, each with the owner of its key
abbrev pub entries_of : File → List Entry
entries_of f = map (entry_of f) (maps.entries (records_of f))

-- Each entry tells of the owner of its key, whatever its record is.
abbrev pub TellOwners : File → List Entry → Type 0
TellOwners f entries = entries ≡ map (λ e. entry_of f (e.key, e.value)) entries

-- the list in a vector
abbrev pub listed : {X E : Type 0} → Result (Vec X) E → Result (List X) E
listed (Ok v) = Ok v.items
listed (Err fault) = Err fault

abbrev pub EntriesStep : File → Bool → Result (List Entry) EntriesFault → File → Type 0
EntriesStep old failed (Ok entries) new = (failed ≡ false) × (entries ≡ entries_of old) × (new ≡ old)
EntriesStep old failed (Err entries_faults.Device) new = (failed ≡ true) × (new ≡ old)
EntriesStep old failed (Err entries_faults.Memory) new = (failed ≡ false) × (new ≡ old)
EntriesStep old failed (Err (entries_faults.Damaged page)) new = ⊥

-- the record that would stand at a key if every open transaction went back to its beginning
abbrev pub CommittedStep : File → List ℕ → Bool → Result (Option (List ℕ)) CommittedFault → File → Type 0
CommittedStep old x failed (Ok found) new = (failed ≡ false) × (found ≡ maps.get (committed old) x) × (new ≡ old)
CommittedStep old x failed (Err committed_faults.Device) new = (failed ≡ true) × (new ≡ old)
CommittedStep old x failed (Err (committed_faults.Damaged page)) new = ⊥

-- the entries on a side of a gap, the nearest first
abbrev pub entries_beside : File → Side → Gap → List Entry
entries_beside f side gap = map (entry_of f) (all_beside side (records_of f) gap)

abbrev pub EntriesBesideStep : File → Side → Gap → Bool → Result (List Entry) EntriesFault → File → Type 0
EntriesBesideStep old side gap failed (Ok entries) new = (failed ≡ false) × (entries ≡ entries_beside old side gap) × (new ≡ old)
EntriesBesideStep old side gap failed (Err entries_faults.Device) new = (failed ≡ true) × (new ≡ old)
EntriesBesideStep old side gap failed (Err entries_faults.Memory) new = (failed ≡ false) × (new ≡ old)
EntriesBesideStep old side gap failed (Err (entries_faults.Damaged page)) new = ⊥

-- the entry of the record beside a gap
abbrev pub entry_beside : File → Side → Gap → Option Entry
entry_beside f side gap = option_map (entry_of f) (beside side (records_of f) gap)

-- An entry tells of the owner of its key, whatever its record is.
abbrev pub TellsOwner : File → Option Entry → Type 0
TellsOwner f found = found ≡ option_map (λ e. entry_of f (e.key, e.value)) found

abbrev pub BesideStep : File → Side → Gap → Bool → Result (Option Entry) EntriesFault → File → Type 0
BesideStep old side gap failed (Ok found) new = (failed ≡ false) × (found ≡ entry_beside old side gap) × (new ≡ old)
BesideStep old side gap failed (Err entries_faults.Device) new = (failed ≡ true) × (new ≡ old)
BesideStep old side gap failed (Err entries_faults.Memory) new = (failed ≡ false) × (new ≡ old)
BesideStep old side gap failed (Err (entries_faults.Damaged page)) new = ⊥

abbrev pub KeysOfStep : File → ℕ → Result (List (List ℕ)) KeysOfFault → Type 0
KeysOfStep f t (Ok keys) = (IsSome (tx_of f t)) × (keys ≡ keys_owned (open_of f) f.history t)
KeysOfStep f t (Err keys_faults.NoSuchTx) = tx_of f t ≡ None
KeysOfStep f t (Err keys_faults.Memory) = IsSome (tx_of f t)

abbrev pub status_by : File → ℕ → List ℕ → Option Rollback → Status
status_by f t places None = statuses.Active (length places) (live_from f.history t zero)
status_by f t places (Some r) = statuses.Rolling (live_from f.history t r.to) r.ends

abbrev pub status_in : File → ℕ → Option Tx → Result Status StatusFault
status_in f t None = Err status_faults.NoSuchTx
status_in f t (Some tx) = Ok (status_by f t tx.places tx.rollback)

-- what an open transaction is doing
abbrev pub status_of : File → ℕ → Result Status StatusFault
status_of f t = status_in f t (tx_of f t)
