-- The step of one call, from what its contract says.
use Rattle.std.proofs.Common.{◌≡◌, ℕ, [], if◌then◌else◌, Bool, true, false, List, Option, Some, None, Result, Ok, Err, refl, sym, ◌∙◌, ap, IfSome}
use Rattle.rec_types.specs.declared.table_state.TableState.{Ghosts}
use Rattle.record_file.specs.declared.fault.GetFault.{GetFault}
use Rattle.record_file.specs.declared.fault.CommittedFault.{CommittedFault}
use Rattle.record_file.specs.declared.fault.CommittedFault.TheVariants as committed_faults
use Rattle.record_file.specs.declared.fault.GetFault.TheVariants as get_faults
use Rattle.record_file.specs.Abstract.{OpenFile, IsKeptFile}
use Rattle.record_file.specs.Asked.{Asked, Asks, UndoAsks}
use Rattle.record_file.specs.declared.fault.Cause.{Cause}
use Rattle.record_file.specs.Outside.{by_device, by_memory, NeverDamaged}
use Rattle.record_file.specs.Refusals.{put_refusal, claim_refusal, remove_refusal, get_refusal, committed_refusal, rollback_refusal, abort_refusal, resume_refusal, refusal_by, cause_by}
use Rattle.record_file.specs.declared.refusal.Refusal.{Refusal}
use Rattle.record_file.specs.Steps.{key_refusal, tx_refusal, returning_refusal, resuming_refusal}
use Rattle.record_file.specs.Runs.{Called, Seen, Step, Answers, Made, IsKeptSeen, cause_in, event_of, seen, seen_as, undoubted, Begin, Put, Claim, Remove, Get, Savepoint, Release, RollbackTo, Abort, Resume, Commit, Entries, Beside, EntriesBeside, CommittedAt, KeysOf, StatusOf, Charged, Begun, LogLen, LogUse, RecordAt, IntoTable}
use Rattle.record_file.specs.Seen.{commits_of, doubt_of}
use Rattle.record_file.specs.declared.call.Call.{Call}
use Rattle.record_file.specs.declared.call.Answer.{Answer}
use Rattle.record_file.specs.Calls.{TellsOf, Makes}

-- what a run sees where the table and the log stay
pub same_commits : {T : Type 0} (logged : Bool) (t : Ghosts T) (old new : T) → t.sound new ≡ t.sound old → t.origin new ≡ t.origin old → commits_of logged t new ≡ commits_of logged t old
same_commits logged t old new sound origin i = if logged then (if sound i then t.commits (origin i) else []) else []

pub same_but_file : {T : Type 0} (t : Ghosts T) (old new : OpenFile T) → new.table ≡ old.table → new.log ≡ old.log → (logged : Bool) → seen_as logged t new ≡ record (seen_as logged t old) { file = new.file }
same_but_file t old new table log logged i = record {
  file = new.file;
  log = log i;
  records = t.contents (table i);
  sound = t.sound (table i);
  failures = t.device_failures (table i);
  refusals = t.memory_refusals (table i);
  damages = t.damages (table i);
  calls = t.calls (table i);
  logged = logged;
  commits = commits_of logged t (table i);
  doubt = doubt_of logged t (table i);
}

-- the same of a commit that isn't kept
pub keeping : (old new : Seen) → new ≡ record old { file = new.file } → new ≡ record old { file = new.file; commits = new.commits }
keeping old new same = same ∙ (λ i. record old { file = new.file; commits = sym (ap (λ (s : Seen). s.commits) same) i })

-- what stays true of a file is what a run sees of it
pub kept_seen : {T : Type 0} (t : Ghosts T) (f : OpenFile T) → IsKeptFile (t.sound f.table) (t.contents f.table) (t.record_limit f.table) f.file f.log → IsKeptSeen (seen t f)
kept_seen t f kept = record {
  limited = refl;
  replayed = kept.replayed;
  within = kept.within;
  owned = kept.owned;
  written = kept.written;
  chained = kept.chained;
  used = kept.used;
  begun = kept.begun;
  opens = kept.opens;
  depths = kept.depths;
  whole = kept.whole;
}

-- what has no cause names no page
pub names_none : (sound : Bool) → NeverDamaged sound None
names_none sound here page is = absurd (cc is)

-- what happens in a call doesn't depend on whether commits are kept beside its table
module _ (old new : Seen) (logged : Bool) (was is : List (List (List ℕ))) (same : is ≡ was) where
  abbrev With : Seen → List (List (List ℕ)) → Seen
  With s commits = record s { logged = logged; commits = commits }

  alike : new ≡ old → With new is ≡ With old was
  alike all i = With (all i) (same i)

  alike_but_file : new ≡ record old { file = new.file } → With new is ≡ record (With old was) { file = new.file }
  alike_but_file rest i = With (rest i) (same i)

  alike_refused : (first told : Option Refusal) → IfSome first (λ refusal. (told ≡ Some refusal) × (new ≡ old)) → IfSome first (λ refusal. (told ≡ Some refusal) × (With new is ≡ With old was))
  alike_refused None told refused = refused
  alike_refused (Some refusal) told refused = (refused.0, alike refused.1)

  alike_asks : (may : Asked → Type 0) (cause : Option Cause) → Asks may old cause new → Asks may (With old was) cause (With new is)
  alike_asks may cause told = record { asked = told.asked; allowed = told.allowed; calls = told.calls; lost = told.lost }

  alike_undo : (cause : Option Cause) → UndoAsks old cause new → UndoAsks (With old was) cause (With new is)
  alike_undo cause told = record { more = told.more; no_room = told.no_room; grown = told.grown; sets = told.sets; gets = told.gets; lists = told.lists; no_rooms = told.no_rooms; lost = told.lost }

  answers_alike : (called : Called) (failed refused : Bool) → Answers old called failed refused new → Answers (With old was) called failed refused (With new is)
  answers_alike (Begin answer) failed refused told = ((told.0.0, told.0.1, alike_but_file told.0.2), told.1)
  answers_alike (Put t x r answer) failed refused told = (told.0, record { step = told.1.step; refused = alike_refused (key_refusal true old.file t.0 x) (refusal_by put_refusal answer) told.1.refused; refused_only = told.1.refused_only; accepted = told.1.accepted; opening = told.1.opening; err = told.1.err; damages = told.1.damages; asks = alike_asks _ _ told.1.asks })
  answers_alike (Claim t x answer) failed refused told = (told.0, record { step = told.1.step; refused = alike_refused (key_refusal true old.file t.0 x) (refusal_by claim_refusal answer) told.1.refused; refused_only = told.1.refused_only; accepted = told.1.accepted; opening = told.1.opening; err = told.1.err; damages = told.1.damages; asks = told.1.asks })
  answers_alike (Remove t x answer) failed refused told = (told.0, record { step = told.1.step; refused = alike_refused (key_refusal true old.file t.0 x) (refusal_by remove_refusal answer) told.1.refused; refused_only = told.1.refused_only; accepted = told.1.accepted; opening = told.1.opening; err = told.1.err; damages = told.1.damages; asks = alike_asks _ _ told.1.asks })
  answers_alike (Get t x answer) failed refused told = (told.0, record { step = told.1.step; refused = alike_refused (key_refusal false old.file t.0 x) (refusal_by get_refusal answer) told.1.refused; refused_only = told.1.refused_only; same = told.1.same; damages = told.1.damages; asks = told.1.asks })
  answers_alike (Savepoint t answer) failed refused told = ((told.0.0, told.0.1, alike_but_file told.0.2), told.1)
  answers_alike (Release t n answer) failed refused told = ((told.0.0, told.0.1, alike_but_file told.0.2), told.1)
  answers_alike (RollbackTo t n answer) failed refused told = (told.0, record { step = told.1.step; rolled = told.1.rolled; opening = told.1.opening; refused = alike_refused (returning_refusal old.file t.0 n) (refusal_by rollback_refusal answer) told.1.refused; damages = told.1.damages; asks = alike_undo _ told.1.asks })
  answers_alike (Abort t answer) failed refused told = (told.0, record { step = told.1.step; rolled = told.1.rolled; opening = told.1.opening; refused = alike_refused (tx_refusal old.file t.0 None) (refusal_by abort_refusal answer) told.1.refused; damages = told.1.damages; asks = alike_undo _ told.1.asks })
  answers_alike (Resume t answer) failed refused told = (told.0, record { step = told.1.step; rolled = told.1.rolled; opening = told.1.opening; refused = alike_refused (resuming_refusal old.file t.0) (refusal_by resume_refusal answer) told.1.refused; damages = told.1.damages; asks = alike_undo _ told.1.asks })
  answers_alike (Commit t answer) failed refused told = ((told.0.0, told.0.1, λ i. With (told.0.2 i) is), told.1)
  answers_alike (Entries answer) failed refused told = (told.0, record { owners = told.1.owners; step = told.1.step; same = told.1.same; damages = told.1.damages; asks = told.1.asks })
  answers_alike (Beside side gap answer) failed refused told = (told.0, record { owner = told.1.owner; step = told.1.step; same = told.1.same; damages = told.1.damages; asks = told.1.asks })
  answers_alike (EntriesBeside side gap answer) failed refused told = (told.0, record { owners = told.1.owners; step = told.1.step; same = told.1.same; damages = told.1.damages; asks = told.1.asks })
  answers_alike (CommittedAt x answer) failed refused told = (told.0, record { step = told.1.step; same = told.1.same; damages = told.1.damages; asks = told.1.asks })
  answers_alike (KeysOf t answer) failed refused told = ((told.0.0, told.0.1, alike told.0.2), told.1)
  answers_alike (StatusOf t answer) failed refused told = ((told.0.0, told.0.1, alike told.0.2), told.1)
  answers_alike (Charged count) failed refused told = ((told.0.0, told.0.1, alike told.0.2), told.1)
  answers_alike (Begun count) failed refused told = ((told.0.0, told.0.1, alike told.0.2), told.1)
  answers_alike (LogLen count) failed refused told = ((told.0.0, told.0.1, alike told.0.2), told.1)
  answers_alike (LogUse count) failed refused told = ((told.0.0, told.0.1, alike told.0.2), told.1)
  answers_alike (RecordAt lsn answer) failed refused told = ((told.0.0, told.0.1, alike told.0.2), told.1)
  answers_alike (IntoTable answer) failed refused told = ((told.0.0, told.0.1, alike told.0.2), told.1)

-- The step of a run that a call is, where commits are kept beside its table, and where they aren't.
pub step_of : {T : Type 0} (t : Ghosts T) (logged : Bool) (old new : OpenFile T) (called : Called) (made : Made t old called new) → IsKeptSeen (seen_as logged t old) → IsKeptSeen (seen_as logged t new) → Step (undoubted (seen_as logged t old)) (event_of called made.refused) (undoubted (seen_as logged t new))
step_of t logged old new called made was is =
    let happens = made.happens in
    let same = same_commits logged t old.table new.table happens.sound made.origin in
    record {
      kept = was;
      keeps = is;
      happens = record {
        undamaged = happens.undamaged;
        failures = happens.failures;
        refusals = happens.refusals;
        sound = happens.sound;
        told = happens.told;
        logged = refl;
        commits = λ _. same;
        answer = answers_alike (seen t old) (seen t new) logged (commits_of logged t old.table) (commits_of logged t new.table) same called (by_device (cause_in called)) made.refused happens.answer;
      };
    }

-- a call makes its step
pub call_makes : {T : Type 0} (t : Ghosts T) (old new : OpenFile T) (asked : Call) (told : Answer) (called : Called) → TellsOf asked told called → Made t old called new → IsKeptSeen (seen t old) → IsKeptSeen (seen t new) → Makes (seen t old) asked told (seen t new)
call_makes t old new asked told called tells made was is = record { event = event_of called made.refused; tells = tells; step = step_of t false old new called made was is }

-- a refusal leaves all that a run sees
pub refused_seen : {T : Type 0} (t : Ghosts T) (old new : OpenFile T) (first told : Option Refusal) → IfSome first (λ refusal. (told ≡ Some refusal) × (new ≡ old)) → IfSome first (λ refusal. (told ≡ Some refusal) × (seen t new ≡ seen t old))
refused_seen t old new None told is = is
refused_seen t old new (Some refusal) told is = (is.0, ap (seen t) is.1)

-- a look never wants memory
pub committed_wants_none : {A : Type 0} (answer : Result A CommittedFault) → false ≡ by_memory (cause_by committed_refusal answer)
committed_wants_none (Ok found) = refl
committed_wants_none (Err committed_faults.Device) = refl
committed_wants_none (Err (committed_faults.Damaged page)) = refl

pub get_wants_none : {A : Type 0} (answer : Result A GetFault) → false ≡ by_memory (cause_by get_refusal answer)
get_wants_none (Ok found) = refl
get_wants_none (Err get_faults.NoSuchTx) = refl
get_wants_none (Err get_faults.Rolling) = refl
get_wants_none (Err (get_faults.Held owner)) = refl
get_wants_none (Err get_faults.Device) = refl
get_wants_none (Err (get_faults.Damaged page)) = refl
