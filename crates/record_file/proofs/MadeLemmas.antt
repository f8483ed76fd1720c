-- The theorem of a call, from what is known where it ends.
use Rattle.std.proofs.Common.{◌≡◌, ◌<◌, ℕ, Bool, true, false, not, is_some, is_none, List, Option, Some, None, Result, Ok, Err, refl, sym, ap, subst, ◌∙◌, IsTrue, IfSome, IfOk, IfErr, OnErr, inl}
use Rattle.std.specs.Global.{Vec}
use Rattle.std.specs.FinMap as maps
use Rattle.rec_types.specs.Calls.{with_get, with_list}
use Rattle.rec_types.specs.History.{log_len}
use Rattle.rec_types.specs.Table.{counted, greatest_count}
use Rattle.rec_types.specs.declared.table_state.TableState.{Ghosts}
use Rattle.rec_types.specs.declared.transaction.TxId.{TxId}
use Rattle.rec_types.specs.declared.transaction.Entry.{Entry}
use Rattle.record_file.specs.Abstract.{OpenFile, open_of, charged_of, use_of, is_full, records_of}
use Rattle.tx_log.specs.Owners.{owner_of}
use Rattle.record_file.specs.Asked.{Asks, MayPut, MayRemove, UndoAsks, looked_unless}
use Rattle.record_file.specs.Outside.{by_device, by_memory, named_by, NeverDamaged}
use Rattle.record_file.specs.Refusals.{put_refusal, claim_refusal, remove_refusal, get_refusal, rollback_refusal, abort_refusal, resume_refusal, committed_refusal, entries_refusal, refusal_by, cause_by, cause_in_refusal, by_file}
use Rattle.record_file.specs.Runs.{Called, Answers, SparesFile, Made, cause_in, seen, Begin, Put, Claim, Remove, Get, Savepoint, Release, RollbackTo, Abort, Resume, Commit, Entries, Beside, EntriesBeside, CommittedAt, KeysOf, StatusOf, Charged, Begun, LogLen, LogUse, RecordAt}
use Rattle.record_file.specs.Steps.{rose, key_refusal, tx_refusal, returning_refusal, resuming_refusal, Accepts, key_change, BeginStep, PutStep, ClaimStep, RemoveStep, GetStep, SavepointStep, ReleaseStep, CommitStep, RollsBackTo, Aborts, Resumes, EntriesStep, EntriesBesideStep, BesideStep, CommittedStep, TellsOwner, TellOwners, KeysOfStep, RefusedFor, status_of, listed}
use Rattle.record_file.specs.TableCalls.{ChangesTable, KeepsTable, LeavesLog}
use Rattle.record_file.specs.declared.fault.PutFault.{PutFault}
use Rattle.record_file.specs.declared.fault.ClaimFault.{ClaimFault}
use Rattle.record_file.specs.declared.fault.RemoveFault.{RemoveFault}
use Rattle.record_file.specs.declared.fault.GetFault.{GetFault}
use Rattle.record_file.specs.declared.fault.SavepointFault.{SavepointFault}
use Rattle.record_file.specs.declared.fault.ReleaseFault.{ReleaseFault}
use Rattle.record_file.specs.declared.fault.RollbackToFault.{RollbackToFault}
use Rattle.record_file.specs.declared.fault.AbortFault.{AbortFault}
use Rattle.record_file.specs.declared.fault.ResumeFault.{ResumeFault}
use Rattle.record_file.specs.declared.fault.CommitFault.{CommitFault}
use Rattle.rec_types.specs.declared.gap.Gap.{Gap}
use Rattle.rec_types.specs.declared.side.Side.{Side}
use Rattle.record_file.specs.declared.fault.CommittedFault.{CommittedFault}
use Rattle.record_file.specs.declared.fault.EntriesFault.{EntriesFault}
use Rattle.record_file.specs.declared.fault.KeysOfFault.{KeysOfFault}
use Rattle.record_file.specs.declared.fault.StatusFault.{StatusFault}
use Rattle.record_file.specs.declared.fault.Status.{Status}
use Rattle.record_file.specs.declared.fault.Cause.{Cause}
use Rattle.record_file.specs.declared.refusal.Refusal.{Refusal}
use Rattle.record_file.specs.declared.refusal.Refusal.TheVariants as refusals
use Rattle.tx_log.specs.Log.{record_at}
use Rattle.tx_log.specs.declared.log_record.LogRecord.{LogRecord}
use Rattle.tx_log.specs.declared.phase.BeginFault.{BeginFault}
use Rattle.record_file.proofs.CallStepLemmas.{get_wants_none, committed_wants_none, keeping, names_none, refused_seen, same_but_file}
use Rattle.record_file.proofs.AskedLemmas.{key_by_file, looking, without_cause}
use Rattle.record_file.proofs.FaultLemmas.{rose_same}
use Rattle.record_file.proofs.LogGrowthLemmas.{tells_none}
use Rattle.record_file.proofs.RollbackLemmas.{ends_by}

-- a call that changes no record; the cause is what came from outside and ended it
pub record LeavesTable {T : Type 0} (t : Ghosts T) (old : OpenFile T) (cause : Option Cause) (new : OpenFile T) : Type 0 where
  pub same : (t.contents new.table ≡ t.contents old.table) × (new.file ≡ old.file) × (new.log ≡ old.log)
  pub soundness : t.sound new.table ≡ t.sound old.table
  pub origin : t.origin new.table ≡ t.origin old.table
  pub device : t.device_failures new.table ≡ counted (t.device_failures old.table) (by_device cause)
  pub damages : t.damages new.table ≡ named_by (t.damages old.table) cause

-- a call that asks the log for memory too: where the table refused it, the answer says so
abbrev pub AsksMemory : ℕ → Option Cause → ℕ → Type 0
AsksMemory old cause new = (refused : Bool) × (new ≡ counted old refused) × (IsTrue refused → IsTrue (by_memory cause))

-- what isn't refused
pub free_of : (P : Refusal → Type 0) (first : Option Refusal) → first ≡ None → IfSome first P
free_of P None none = tt
free_of P (Some refusal) none = absurd (cc)

module _ {T : Type 0} (t : Ghosts T) (old new : OpenFile T) where
  -- the contents, the file and the log stay
  abbrev LeavesAll : Type 0
  LeavesAll = (t.contents new.table ≡ t.contents old.table) × (new.file ≡ old.file) × (new.log ≡ old.log)

  -- what the file alone refuses leaves the file
  spared : (first told : Option Refusal) → IfSome first (λ refusal. (told ≡ Some refusal) × (new ≡ old)) → IfSome first (λ _. new ≡ old)
  spared None told refused = refused
  spared (Some refusal) told refused = refused.1

  -- a call that may change records
  changes_made : (called : Called) (refused : Bool) → ChangesTable t old (cause_in called) new → t.memory_refusals new.table ≡ counted (t.memory_refusals old.table) refused → NeverDamaged (t.sound old.table) (cause_in called) → Answers (seen t old) called (by_device (cause_in called)) refused (seen t new) → SparesFile old called new → Made t old called new
  changes_made called refused table memory damaged answer spares = record {
    refused = refused;
    happens = record { undamaged = damaged; failures = table.device; refusals = memory; sound = table.soundness; told = table.told; logged = refl; commits = λ _. refl; answer = answer };
    origin = table.origin;
    spares = spares;
  }

  -- a call that changes none
  leaves_made : (called : Called) (refused : Bool) → LeavesTable t old (cause_in called) new → t.memory_refusals new.table ≡ counted (t.memory_refusals old.table) refused → NeverDamaged (t.sound old.table) (cause_in called) → Answers (seen t old) called (by_device (cause_in called)) refused (seen t new) → SparesFile old called new → Made t old called new
  leaves_made called refused table memory damaged answer spares = record {
    refused = refused;
    happens = record {
      undamaged = damaged;
      failures = table.device;
      refusals = memory;
      sound = table.soundness;
      told = tells_none (t.sound old.table) (t.contents old.table) (t.contents new.table) old.log new.log table.same.0 table.same.2;
      logged = refl;
      commits = λ _. refl;
      answer = answer;
    };
    origin = table.origin;
    spares = spares;
  }

  pub put_made : (tx : TxId) (x r : List ℕ) (answer : Result (Option (List ℕ)) PutFault)
      → (IsTrue (t.sound old.table) → t.device_failures old.table < greatest_count → PutStep old.file tx.0 x r (rose (t.device_failures old.table) (t.device_failures new.table)) answer new.file)
      → IfSome (key_refusal true old.file tx.0 x) (λ refusal. (refusal_by put_refusal answer ≡ Some refusal) × (new ≡ old))
      → IfErr answer (λ fault. IsTrue (by_file (put_refusal fault)) → key_refusal true old.file tx.0 x ≡ Some (put_refusal fault))
      → IfOk answer (λ before. Accepts old.file old.log (key_change tx x before (Some (Some r))) new.file new.log)
      → OnErr answer LeavesAll → ChangesTable t old (cause_by put_refusal answer) new → AsksMemory (t.memory_refusals old.table) (cause_by put_refusal answer) (t.memory_refusals new.table) → NeverDamaged (t.sound old.table) (cause_by put_refusal answer)
      → Asks (MayPut (t.sound old.table) old.file x answer) (seen t old) (cause_by put_refusal answer) (seen t new)
      → Made t old (Put tx x r answer) new
  put_made tx x r answer step refused refused_only accepted err table memory damaged asks =
      changes_made (Put tx x r answer) memory.0 table memory.1 damaged
      ((refl, memory.2), record { step = step; refused = refused_seen t old new (key_refusal true old.file tx.0 x) (refusal_by put_refusal answer) refused; refused_only = refused_only; accepted = accepted; opening = table.opening; err = err; damages = table.damages; asks = asks })
      (spared (key_refusal true old.file tx.0 x) (refusal_by put_refusal answer) refused)

  pub claim_made : (tx : TxId) (x : List ℕ) (answer : Result (Option (List ℕ)) ClaimFault)
      → (IsTrue (t.sound old.table) → t.device_failures old.table < greatest_count → ClaimStep old.file tx.0 x (rose (t.device_failures old.table) (t.device_failures new.table)) answer new.file)
      → IfSome (key_refusal true old.file tx.0 x) (λ refusal. (refusal_by claim_refusal answer ≡ Some refusal) × (new ≡ old))
      → IfErr answer (λ fault. IsTrue (by_file (claim_refusal fault)) → key_refusal true old.file tx.0 x ≡ Some (claim_refusal fault))
      → IfOk answer (λ found. Accepts old.file old.log (key_change tx x found None) new.file new.log)
      → OnErr answer LeavesAll → ChangesTable t old (cause_by claim_refusal answer) new → AsksMemory (t.memory_refusals old.table) (cause_by claim_refusal answer) (t.memory_refusals new.table) → NeverDamaged (t.sound old.table) (cause_by claim_refusal answer)
      → t.calls new.table ≡ looked_unless (is_some (key_refusal true old.file tx.0 x)) (t.calls old.table)
      → t.damages new.table ≡ named_by (t.damages old.table) (cause_by claim_refusal answer)
      → Made t old (Claim tx x answer) new
  claim_made tx x answer step refused refused_only accepted err table memory damaged asks named =
      changes_made (Claim tx x answer) memory.0 table memory.1 damaged
      ((refl, memory.2), record { step = step; refused = refused_seen t old new (key_refusal true old.file tx.0 x) (refusal_by claim_refusal answer) refused; refused_only = refused_only; accepted = accepted; opening = table.opening; err = err; damages = named; asks = asks })
      (spared (key_refusal true old.file tx.0 x) (refusal_by claim_refusal answer) refused)

  pub remove_made : (tx : TxId) (x : List ℕ) (answer : Result (List ℕ) RemoveFault)
      → (IsTrue (t.sound old.table) → t.device_failures old.table < greatest_count → RemoveStep old.file tx.0 x (rose (t.device_failures old.table) (t.device_failures new.table)) answer new.file)
      → IfSome (key_refusal true old.file tx.0 x) (λ refusal. (refusal_by remove_refusal answer ≡ Some refusal) × (new ≡ old))
      → IfErr answer (λ fault. IsTrue (by_file (remove_refusal fault)) → key_refusal true old.file tx.0 x ≡ Some (remove_refusal fault))
      → IfOk answer (λ before. Accepts old.file old.log (key_change tx x (Some before) (Some None)) new.file new.log)
      → OnErr answer LeavesAll → ChangesTable t old (cause_by remove_refusal answer) new → AsksMemory (t.memory_refusals old.table) (cause_by remove_refusal answer) (t.memory_refusals new.table) → NeverDamaged (t.sound old.table) (cause_by remove_refusal answer)
      → Asks (MayRemove (is_some (key_refusal true old.file tx.0 x)) answer) (seen t old) (cause_by remove_refusal answer) (seen t new)
      → Made t old (Remove tx x answer) new
  remove_made tx x answer step refused refused_only accepted err table memory damaged asks =
      changes_made (Remove tx x answer) memory.0 table memory.1 damaged
      ((refl, memory.2), record { step = step; refused = refused_seen t old new (key_refusal true old.file tx.0 x) (refusal_by remove_refusal answer) refused; refused_only = refused_only; accepted = accepted; opening = table.opening; err = err; damages = table.damages; asks = asks })
      (spared (key_refusal true old.file tx.0 x) (refusal_by remove_refusal answer) refused)

  pub get_made : (tx : TxId) (x : List ℕ) (answer : Result (Option (List ℕ)) GetFault)
      → (IsTrue (t.sound old.table) → t.device_failures old.table < greatest_count → GetStep old.file tx.0 x (rose (t.device_failures old.table) (t.device_failures new.table)) answer new.file)
      → IfSome (key_refusal false old.file tx.0 x) (λ refusal. (refusal_by get_refusal answer ≡ Some refusal) × (new ≡ old))
      → IfErr answer (λ fault. IsTrue (by_file (get_refusal fault)) → key_refusal false old.file tx.0 x ≡ Some (get_refusal fault))
      → LeavesTable t old (cause_by get_refusal answer) new → t.memory_refusals new.table ≡ t.memory_refusals old.table → NeverDamaged (t.sound old.table) (cause_by get_refusal answer)
      → t.calls new.table ≡ looked_unless (is_some (key_refusal false old.file tx.0 x)) (t.calls old.table)
      → Made t old (Get tx x answer) new
  get_made tx x answer step refused refused_only table memory damaged asks =
      leaves_made (Get tx x answer) false table memory damaged
      ((refl, get_wants_none answer), record { step = step; refused = refused_seen t old new (key_refusal false old.file tx.0 x) (refusal_by get_refusal answer) refused; refused_only = refused_only; same = table.same; damages = table.damages; asks = asks })
      (spared (key_refusal false old.file tx.0 x) (refusal_by get_refusal answer) refused)

  pub rollback_made : (tx : TxId) (n : ℕ) (answer : Result ℕ RollbackToFault)
      → RollsBackTo old.file tx.0 n answer new.file
      → IfSome (returning_refusal old.file tx.0 n) (λ refusal. (refusal_by rollback_refusal answer ≡ Some refusal) × (new ≡ old))
      → ChangesTable t old (cause_by rollback_refusal answer) new → t.memory_refusals new.table ≡ counted (t.memory_refusals old.table) (by_memory (cause_by rollback_refusal answer)) → NeverDamaged (t.sound old.table) (cause_by rollback_refusal answer)
      → UndoAsks (seen t old) (cause_by rollback_refusal answer) (seen t new)
      → Made t old (RollbackTo tx n answer) new
  rollback_made tx n answer rolled refused table memory damaged asks =
      changes_made (RollbackTo tx n answer) (by_memory (cause_by rollback_refusal answer)) table memory damaged
      ((refl, refl), record { step = λ sound few fewer. (rolled, table.opening sound, ends_by (cause_by rollback_refusal answer) _ _ _ _ few fewer table.device memory (damaged sound)); rolled = rolled; opening = table.opening; refused = refused_seen t old new (returning_refusal old.file tx.0 n) (refusal_by rollback_refusal answer) refused; damages = table.damages; asks = asks })
      (spared (returning_refusal old.file tx.0 n) (refusal_by rollback_refusal answer) refused)

  pub abort_made : (tx : TxId) (answer : Result ℕ AbortFault)
      → Aborts old.file tx.0 answer new.file
      → IfSome (tx_refusal old.file tx.0 None) (λ refusal. (refusal_by abort_refusal answer ≡ Some refusal) × (new ≡ old))
      → ChangesTable t old (cause_by abort_refusal answer) new → t.memory_refusals new.table ≡ counted (t.memory_refusals old.table) (by_memory (cause_by abort_refusal answer)) → NeverDamaged (t.sound old.table) (cause_by abort_refusal answer)
      → UndoAsks (seen t old) (cause_by abort_refusal answer) (seen t new)
      → Made t old (Abort tx answer) new
  abort_made tx answer rolled refused table memory damaged asks =
      changes_made (Abort tx answer) (by_memory (cause_by abort_refusal answer)) table memory damaged
      ((refl, refl), record { step = λ sound few fewer. (rolled, table.opening sound, ends_by (cause_by abort_refusal answer) _ _ _ _ few fewer table.device memory (damaged sound)); rolled = rolled; opening = table.opening; refused = refused_seen t old new (tx_refusal old.file tx.0 None) (refusal_by abort_refusal answer) refused; damages = table.damages; asks = asks })
      (spared (tx_refusal old.file tx.0 None) (refusal_by abort_refusal answer) refused)

  pub resume_made : (tx : TxId) (answer : Result ℕ ResumeFault)
      → Resumes old.file tx.0 answer new.file
      → IfSome (resuming_refusal old.file tx.0) (λ refusal. (refusal_by resume_refusal answer ≡ Some refusal) × (new ≡ old))
      → ChangesTable t old (cause_by resume_refusal answer) new → t.memory_refusals new.table ≡ counted (t.memory_refusals old.table) (by_memory (cause_by resume_refusal answer)) → NeverDamaged (t.sound old.table) (cause_by resume_refusal answer)
      → UndoAsks (seen t old) (cause_by resume_refusal answer) (seen t new)
      → Made t old (Resume tx answer) new
  resume_made tx answer rolled refused table memory damaged asks =
      changes_made (Resume tx answer) (by_memory (cause_by resume_refusal answer)) table memory damaged
      ((refl, refl), record { step = λ sound few fewer. (rolled, table.opening sound, ends_by (cause_by resume_refusal answer) _ _ _ _ few fewer table.device memory (damaged sound)); rolled = rolled; opening = table.opening; refused = refused_seen t old new (resuming_refusal old.file tx.0) (refusal_by resume_refusal answer) refused; damages = table.damages; asks = asks })
      (spared (resuming_refusal old.file tx.0) (refusal_by resume_refusal answer) refused)

  -- a list, as it goes to a sink
  pub list_made : (answer : Result (List Entry) EntriesFault)
      → (IsTrue (t.sound old.table) → t.device_failures old.table < greatest_count → EntriesStep old.file (rose (t.device_failures old.table) (t.device_failures new.table)) answer new.file)
      → IfOk answer (TellOwners old.file)
      → LeavesTable t old (cause_by entries_refusal answer) new → AsksMemory (t.memory_refusals old.table) (cause_by entries_refusal answer) (t.memory_refusals new.table) → NeverDamaged (t.sound old.table) (cause_by entries_refusal answer)
      → t.calls new.table ≡ with_list (t.calls old.table)
      → Made t old (Entries answer) new
  list_made answer step owners table memory damaged asks =
      leaves_made (Entries answer) memory.0 table memory.1 damaged ((refl, memory.2), record { owners = owners; step = step; same = table.same; damages = table.damages; asks = asks }) tt

  pub entries_made : (answer : Result (Vec Entry) EntriesFault)
      → (IsTrue (t.sound old.table) → t.device_failures old.table < greatest_count → EntriesStep old.file (rose (t.device_failures old.table) (t.device_failures new.table)) (listed answer) new.file)
      → IfOk answer (λ entries. TellOwners old.file entries.items)
      → LeavesTable t old (cause_by entries_refusal answer) new → AsksMemory (t.memory_refusals old.table) (cause_by entries_refusal answer) (t.memory_refusals new.table) → NeverDamaged (t.sound old.table) (cause_by entries_refusal answer)
      → t.calls new.table ≡ with_list (t.calls old.table)
      → Made t old (Entries (listed answer)) new
  entries_made (Ok list) step owners table memory damaged asks =
      leaves_made (Entries (Ok list.items)) memory.0 table memory.1 damaged ((refl, memory.2), record { owners = owners; step = step; same = table.same; damages = table.damages; asks = asks }) tt
  entries_made (Err fault) step owners table memory damaged asks =
      leaves_made (Entries (Err fault)) memory.0 table memory.1 damaged ((refl, memory.2), record { owners = tt; step = step; same = table.same; damages = table.damages; asks = asks }) tt

  -- a list of the records on a side of a gap, as it goes to a sink
  pub list_beside_made : (side : Side) (gap : Gap) (answer : Result (List Entry) EntriesFault)
      → (IsTrue (t.sound old.table) → t.device_failures old.table < greatest_count → EntriesBesideStep old.file side gap (rose (t.device_failures old.table) (t.device_failures new.table)) answer new.file)
      → IfOk answer (TellOwners old.file)
      → LeavesTable t old (cause_by entries_refusal answer) new → t.memory_refusals new.table ≡ counted (t.memory_refusals old.table) (by_memory (cause_by entries_refusal answer)) → NeverDamaged (t.sound old.table) (cause_by entries_refusal answer)
      → t.calls new.table ≡ with_list (t.calls old.table)
      → Made t old (EntriesBeside side gap answer) new
  list_beside_made side gap answer step owners table memory damaged asks =
      leaves_made (EntriesBeside side gap answer) (by_memory (cause_by entries_refusal answer)) table memory damaged ((refl, refl), record { owners = owners; step = step; same = table.same; damages = table.damages; asks = asks }) tt

  -- a look at the record that is committed at a key
  pub committed_made : (x : List ℕ) (answer : Result (Option (List ℕ)) CommittedFault)
      → (IsTrue (t.sound old.table) → t.device_failures old.table < greatest_count → CommittedStep old.file x (rose (t.device_failures old.table) (t.device_failures new.table)) answer new.file)
      → LeavesTable t old (cause_by committed_refusal answer) new → t.memory_refusals new.table ≡ t.memory_refusals old.table → NeverDamaged (t.sound old.table) (cause_by committed_refusal answer)
      → t.calls new.table ≡ looked_unless (is_some (owner_of (open_of old.file) old.file.history x)) (t.calls old.table)
      → Made t old (CommittedAt x answer) new
  committed_made x answer step table memory damaged asks =
      leaves_made (CommittedAt x answer) false table memory damaged ((refl, committed_wants_none answer), record { step = step; same = table.same; damages = table.damages; asks = asks }) tt

  -- a look at the record beside a gap
  pub beside_made : (side : Side) (gap : Gap) (answer : Result (Option Entry) EntriesFault)
      → (IsTrue (t.sound old.table) → t.device_failures old.table < greatest_count → BesideStep old.file side gap (rose (t.device_failures old.table) (t.device_failures new.table)) answer new.file)
      → IfOk answer (TellsOwner old.file)
      → LeavesTable t old (cause_by entries_refusal answer) new → t.memory_refusals new.table ≡ counted (t.memory_refusals old.table) (by_memory (cause_by entries_refusal answer)) → NeverDamaged (t.sound old.table) (cause_by entries_refusal answer)
      → t.calls new.table ≡ with_get (t.calls old.table)
      → Made t old (Beside side gap answer) new
  beside_made side gap answer step owner table memory damaged asks =
      leaves_made (Beside side gap answer) (by_memory (cause_by entries_refusal answer)) table memory damaged ((refl, refl), record { owner = owner; step = step; same = table.same; damages = table.damages; asks = asks }) tt

  -- a call that asks the table nothing
  quiet_made : (called : Called) → cause_in called ≡ None → KeepsTable old new → LeavesLog old new → Answers (seen t old) called (by_device (cause_in called)) false (seen t new) → SparesFile old called new → Made t old called new
  quiet_made called no_cause table log answer spares = record {
    refused = false;
    happens = record {
      undamaged = subst (NeverDamaged (t.sound old.table)) (sym no_cause) (names_none (t.sound old.table));
      failures = ap t.device_failures table ∙ ap (λ cause. counted (t.device_failures old.table) (by_device cause)) (sym no_cause);
      refusals = ap t.memory_refusals table;
      sound = ap t.sound table;
      told = tells_none (t.sound old.table) (t.contents old.table) (t.contents new.table) old.log new.log (ap t.contents table) log;
      logged = refl;
      commits = λ _. refl;
      answer = answer;
    };
    origin = ap (λ x. t.origin x) table;
    spares = spares;
  }

  pub begin_made : (answer : Result TxId BeginFault) → BeginStep old.file answer new.file → KeepsTable old new → LeavesLog old new → Made t old (Begin answer) new
  begin_made answer step table log = quiet_made (Begin answer) refl table log ((refl, refl, same_but_file t old new table log false), step) (table, log)

  pub savepoint_made : (tx : TxId) (answer : Result ℕ SavepointFault) → SavepointStep old.file tx.0 answer new.file → KeepsTable old new → LeavesLog old new → Made t old (Savepoint tx answer) new
  savepoint_made tx answer step table log = quiet_made (Savepoint tx answer) refl table log ((refl, refl, same_but_file t old new table log false), step) (table, log)

  pub release_made : (tx : TxId) (n : ℕ) (answer : Result (Unit {0}) ReleaseFault) → ReleaseStep old.file tx.0 n answer new.file → KeepsTable old new → LeavesLog old new → Made t old (Release tx n answer) new
  release_made tx n answer step table log = quiet_made (Release tx n answer) refl table log ((refl, refl, same_but_file t old new table log false), step) (table, log)

  pub commit_made : (tx : TxId) (answer : Result (Unit {0}) CommitFault) → CommitStep old.file tx.0 answer new.file → KeepsTable old new → LeavesLog old new → Made t old (Commit tx answer) new
  commit_made tx answer step table log = quiet_made (Commit tx answer) refl table log ((refl, refl, keeping (seen t old) (seen t new) (same_but_file t old new table log false)), step) (table, log)

-- a look
module _ {T : Type 0} (t : Ghosts T) (f : OpenFile T) where
  pub keys_of_made : (tx : TxId) (answer : Result (List (List ℕ)) KeysOfFault) → KeysOfStep f.file tx.0 answer → Made t f (KeysOf tx answer) f
  keys_of_made tx answer told = quiet_made t f f (KeysOf tx answer) refl refl refl ((refl, refl, refl), told) (refl, refl)

  pub status_made : (tx : TxId) (answer : Result Status StatusFault) → answer ≡ status_of f.file tx.0 → Made t f (StatusOf tx answer) f
  status_made tx answer told = quiet_made t f f (StatusOf tx answer) refl refl refl ((refl, refl, refl), told) (refl, refl)

  pub charged_made : (count : ℕ) → (IsTrue (t.sound f.table) → count ≡ maps.len (charged_of f.file)) → Made t f (Charged count) f
  charged_made count told = quiet_made t f f (Charged count) refl refl refl ((refl, refl, refl), told) (refl, refl)

  pub begun_made : (count : ℕ) → count ≡ f.file.begun → Made t f (Begun count) f
  begun_made count told = quiet_made t f f (Begun count) refl refl refl ((refl, refl, refl), told) (refl, refl)

  pub log_len_made : (count : ℕ) → count ≡ log_len f.file.history → Made t f (LogLen count) f
  log_len_made count told = quiet_made t f f (LogLen count) refl refl refl ((refl, refl, refl), told) (refl, refl)

  pub log_use_made : (count : ℕ) → count ≡ use_of f.file → Made t f (LogUse count) f
  log_use_made count told = quiet_made t f f (LogUse count) refl refl refl ((refl, refl, refl), told) (refl, refl)

  pub log_record_made : (lsn : ℕ) (answer : Option LogRecord) → answer ≡ record_at f.log lsn → Made t f (RecordAt lsn answer) f
  log_record_made lsn answer told = quiet_made t f f (RecordAt lsn answer) refl refl refl ((refl, refl, refl), told) (refl, refl)

  -- nothing has changed
  still : (cause : Option Cause) → cause ≡ None → ChangesTable t f cause f
  still cause none = subst (λ (cause : Option Cause). ChangesTable t f cause f) (sym none) record {
    told = tells_none (t.sound f.table) (t.contents f.table) (t.contents f.table) f.log f.log refl refl;
    soundness = refl;
    origin = refl;
    opening = λ _. refl;
    device = refl;
    damages = inl refl;
  }

  undamaged : (cause : Option Cause) → cause ≡ None → NeverDamaged (t.sound f.table) cause
  undamaged cause none = subst (NeverDamaged (t.sound f.table)) (sym none) (names_none (t.sound f.table))

  -- what the file alone refuses a call at a key for
  refused_first : (changes : Bool) (tx : ℕ) (x : List ℕ) (barred : Bool) (n : ℕ) (refusal : Refusal) → key_refusal changes f.file tx x ≡ Some refusal → RefusedFor (key_refusal changes f.file tx x) barred (rose n n) refusal
  refused_first changes tx x barred n refusal is = at refusal is (without_cause changes f.file tx x refusal is) (key_by_file changes f.file tx x refusal is)
    where
      none : rose n n ≡ false
      none = rose_same n n refl

      at : (refusal : Refusal) → key_refusal changes f.file tx x ≡ Some refusal → cause_in_refusal refusal ≡ None → by_file refusal ≡ true → RefusedFor (key_refusal changes f.file tx x) barred (rose n n) refusal
      at refusals.NoSuchTx is no_cause known = (is, none)
      at refusals.Rolling is no_cause known = (is, none)
      at (refusals.Held owner) is no_cause known = (is, none)
      at refusals.LogFull is no_cause known = (is, none)
      at refusal is no_cause known = absurd (cc)

  pub put_refused : (tx : TxId) (x r : List ℕ) (fault : PutFault) → key_refusal true f.file tx.0 x ≡ Some (put_refusal fault) → Made t f (Put tx x r (Err fault)) f
  put_refused tx x r fault is =
      let none = without_cause true f.file tx.0 x (put_refusal fault) is in
      put_made t f f tx x r (Err fault)
      (λ sound few. (refused_first true tx.0 x (is_full f.file x) (t.device_failures f.table) (put_refusal fault) is, refl))
      (subst (λ o. IfSome o (λ refusal. (Some (put_refusal fault) ≡ Some refusal) × (f ≡ f))) (sym is) (refl, refl))
      (λ _. is) tt (refl, refl, refl) (still (cause_in_refusal (put_refusal fault)) none) (false, refl, λ wanted. absurd (cc wanted)) (undamaged (cause_in_refusal (put_refusal fault)) none)
      (record {
        asked = looking false;
        allowed = record { accepted = tt; full = λ _. refl; looks = λ sound looked. absurd (cc looked) };
        calls = refl;
        lost = sym (ap (named_by (t.damages f.table)) none);
      })

  pub claim_refused : (tx : TxId) (x : List ℕ) (fault : ClaimFault) → key_refusal true f.file tx.0 x ≡ Some (claim_refusal fault) → Made t f (Claim tx x (Err fault)) f
  claim_refused tx x fault is =
      let none = without_cause true f.file tx.0 x (claim_refusal fault) is in
      claim_made t f f tx x (Err fault)
      (λ sound few. (refused_first true tx.0 x (is_full f.file x) (t.device_failures f.table) (claim_refusal fault) is, refl))
      (subst (λ o. IfSome o (λ refusal. (Some (claim_refusal fault) ≡ Some refusal) × (f ≡ f))) (sym is) (refl, refl))
      (λ _. is) tt (refl, refl, refl) (still (cause_in_refusal (claim_refusal fault)) none) (false, refl, λ wanted. absurd (cc wanted)) (undamaged (cause_in_refusal (claim_refusal fault)) none)
      (sym (ap (λ (o : Option Refusal). looked_unless (is_some o) (t.calls f.table)) is)) (sym (ap (named_by (t.damages f.table)) none))

  pub remove_refused : (tx : TxId) (x : List ℕ) (fault : RemoveFault) → key_refusal true f.file tx.0 x ≡ Some (remove_refusal fault) → Made t f (Remove tx x (Err fault)) f
  remove_refused tx x fault is =
      let none = without_cause true f.file tx.0 x (remove_refusal fault) is in
      remove_made t f f tx x (Err fault)
      (λ sound few. (refused_first true tx.0 x (is_none (maps.get (records_of f.file) x)) (t.device_failures f.table) (remove_refusal fault) is, refl))
      (subst (λ o. IfSome o (λ refusal. (Some (remove_refusal fault) ≡ Some refusal) × (f ≡ f))) (sym is) (refl, refl))
      (λ _. is) tt (refl, refl, refl) (still (cause_in_refusal (remove_refusal fault)) none) (false, refl, λ wanted. absurd (cc wanted)) (undamaged (cause_in_refusal (remove_refusal fault)) none)
      (record {
        asked = looking false;
        allowed = record { accepted = tt; absent = λ _. refl; looks = sym (ap (λ (o : Option Refusal). not (is_some o)) is) };
        calls = refl;
        lost = sym (ap (named_by (t.damages f.table)) none);
      })

  pub get_refused : (tx : TxId) (x : List ℕ) (fault : GetFault) → key_refusal false f.file tx.0 x ≡ Some (get_refusal fault) → Made t f (Get tx x (Err fault)) f
  get_refused tx x fault is =
      let none = without_cause false f.file tx.0 x (get_refusal fault) is in
      let told = still (cause_in_refusal (get_refusal fault)) none in
      get_made t f f tx x (Err fault)
      (λ sound few. (refused_first false tx.0 x false (t.device_failures f.table) (get_refusal fault) is, refl))
      (subst (λ o. IfSome o (λ refusal. (Some (get_refusal fault) ≡ Some refusal) × (f ≡ f))) (sym is) (refl, refl))
      (λ _. is) (record { same = (refl, refl, refl); soundness = refl; origin = refl; device = told.device; damages = sym (ap (named_by (t.damages f.table)) none) }) refl (undamaged (cause_in_refusal (get_refusal fault)) none)
      (sym (ap (λ (o : Option Refusal). looked_unless (is_some o) (t.calls f.table)) is))
