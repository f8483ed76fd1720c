-- What calls of a file ask of their tables.
use Rattle.std.proofs.Common.{◌≡◌, ◌≤◌, ℕ, Bool, true, false, ◌&&◌, ◌||◌, not, nat_le, is_some, is_none, if◌then◌else◌, List, [], ◌∷◌, ◌++◌, Option, Some, None, option_map, Result, Ok, Err, refl, sym, ap, subst, ◌∙◌, arith}
use Rattle.std.proofs.lemmas.Bool.Decides.{nat_tests}
use Rattle.std.proofs.lemmas.List.{append-nil, append_assoc}
use Rattle.std.specs.FinMap as maps
use Rattle.rec_types.specs.Calls.{with_set, is_no_room, is_miss}
use Rattle.rec_types.specs.Table.{counted, Damages, damaged_by}
use Rattle.rec_types.specs.declared.table.TableFault.{TableFault}
use Rattle.rec_types.specs.declared.table.TableFault.TheVariants as table_faults
use Rattle.rec_types.specs.declared.table_calls.TableCalls.{TableCalls}
use Rattle.rec_types.specs.declared.table_state.TableState.{Ghosts}
use Rattle.rec_types.specs.declared.transaction.TxId.{TxId}
use Rattle.tx_log.specs.Log.{new_of, back_record}
use Rattle.tx_log.specs.LogState.{step_of}
use Rattle.tx_log.specs.Owners.{owner_of}
use Rattle.tx_log.specs.declared.log_record.LogRecord.{LogRecord}
use Rattle.tx_log.specs.declared.phase.Phase.{Phase}
use Rattle.tx_log.specs.declared.phase.Phase.TheVariants as phases
use Rattle.record_file.specs.Abstract.{File, OpenFile, open_of, charged_of, phase_at, held_by}
use Rattle.record_file.specs.Asked.{Asked, after_asking, looked_unless, TellsLost, UndoAsks, may_be_full, restores, sets_told}
use Rattle.record_file.specs.Outside.{cause_of, named_by}
use Rattle.record_file.specs.Refusals.{put_refusal, remove_refusal, refusal_by, cause_in_refusal, by_file}
use Rattle.record_file.specs.Seen.{Seen, seen}
use Rattle.record_file.specs.Steps.{active_refusal, held_refusal, key_refusal}
use Rattle.record_file.specs.declared.refusal.Refusal.{Refusal}
use Rattle.record_file.specs.declared.refusal.Refusal.TheVariants as refusals
use Rattle.record_file.specs.declared.fault.Cause.{Cause}
use Rattle.record_file.specs.declared.fault.Cause.TheVariants.{Damaged}
use Rattle.record_file.specs.declared.fault.PutFault.{PutFault}
use Rattle.record_file.specs.declared.fault.PutFault.TheVariants as put_faults
use Rattle.record_file.specs.declared.fault.RemoveFault.{RemoveFault}
use Rattle.record_file.specs.declared.fault.RemoveFault.TheVariants as remove_faults

-- looks

-- one look at most, and nothing else
abbrev pub looking : Bool → Asked
looking looks = record { looks = looks; sets = false; no_room = false; lost = false }

pub looked_is : (looks : Bool) (calls : TableCalls) → looked_unless (not looks) calls ≡ after_asking calls (looking looks)
looked_is true calls = refl
looked_is false calls = refl

-- a call of `set` behind a look, or behind none
pub set_after : (looks takes_out : Bool) (old mid new : TableCalls) (answer : Result (Option (List ℕ)) TableFault) → mid ≡ looked_unless (not looks) old → new ≡ with_set mid takes_out answer → new ≡ after_asking old (record { looks = looks; sets = true; no_room = is_no_room answer; lost = is_miss takes_out answer })
set_after looks takes_out old mid new answer looked set = set ∙ ap (λ m. with_set m takes_out answer) (looked ∙ looked_is looks old)

-- where the charged keys have reached the limit, the file may be full for a key without an owner
pub may_be_full_here : (f : File) (x : List ℕ) (n : ℕ) (o : Option TxId) → n ≡ maps.len (charged_of f) → f.limits.records ≤ n → option_map (λ (t : TxId). t.0) o ≡ owner_of (open_of f) f.history x → (b : Bool) → is_some o ≡ not b → b ≡ may_be_full f x
may_be_full_here f x n o counted reached is b unowned = at o is b unowned
  where
    reaches : nat_le f.limits.records (maps.len (charged_of f)) ≡ true
    reaches = grind (arith, nat_tests)

    at : (o : Option TxId) → option_map (λ (t : TxId). t.0) o ≡ owner_of (open_of f) f.history x → (b : Bool) → is_some o ≡ not b → b ≡ may_be_full f x
    at None is true unowned = λ i. sym reaches i && is_none (is i)
    at None is false unowned = absurd (cc)
    at (Some t) is true unowned = absurd (cc)
    at (Some t) is false unowned = λ i. sym reaches i && is_none (is i)

-- damaged pages

-- what a table's fault tells, where it had room
pub told_named : (A : Type 0) (fault : TableFault) (old new : Damages) → (fault ≡ table_faults.NoRoom → ⊥) → new ≡ damaged_by {A = A} old (Err fault) → new ≡ named_by old (Some (cause_of fault))
told_named A table_faults.Device old new room is = is
told_named A (table_faults.Damaged page) old new room is = is
told_named A table_faults.NoRoom old new room is = absurd (room refl)
told_named A table_faults.Memory old new room is = is

-- and where it may not have had it
pub told_lost : (A : Type 0) (fault : TableFault) (old new : Damages) → new ≡ damaged_by {A = A} old (Err fault) → TellsLost (is_no_room {A = A} (Err fault)) old (Some (cause_of fault)) new
told_lost A table_faults.Device old new is = is
told_lost A (table_faults.Damaged page) old new is = is
told_lost A table_faults.NoRoom old new is = (refl, is)
told_lost A table_faults.Memory old new is = is

-- nothing is lost where a record is put, and where one is found
pub put_loses_none : (before : Option (List ℕ)) (old new : Damages) → new ≡ old → TellsLost (is_miss false (Ok before) || false) old None new
put_loses_none None old new is = is
put_loses_none (Some r) old new is = is

pub found_loses_none : (before : Option (List ℕ)) (r : List ℕ) (old new : Damages) → before ≡ Some r → new ≡ old → TellsLost (is_miss true (Ok before) || false) old None new
found_loses_none None r old new found is = absurd (cc)
found_loses_none (Some s) r old new found is = is

-- a record that was seen is lost where nothing is found
pub none_is_lost : (before : Option (List ℕ)) (old new : Damages) → before ≡ None → new ≡ old → TellsLost (is_miss true (Ok before) || false) old (Some (Damaged 0)) new
none_is_lost None old new none is = (refl, is)
none_is_lost (Some s) old new none is = absurd (cc)

-- no table's fault is a file's own

pub never_full : (fault : PutFault) (cause : Cause) → put_refusal fault ≡ refusals.Failed cause → ◌≡◌ {A = Result (Option (List ℕ)) PutFault} (Err fault) (Err put_faults.Full) → ⊥
never_full fault cause told is = absurd (cc (ap (λ (r : Refusal). Some r) (sym told) ∙ ap (refusal_by put_refusal) is))

pub never_absent : (fault : RemoveFault) (cause : Cause) → remove_refusal fault ≡ refusals.Failed cause → ◌≡◌ {A = Result (List ℕ) RemoveFault} (Err fault) (Err remove_faults.Absent) → ⊥
never_absent fault cause told is = absurd (cc (ap (λ (r : Refusal). Some r) (sym told) ∙ ap (refusal_by remove_refusal) is))

-- what the file alone refuses a call for has no cause outside
pub without_cause : (changes : Bool) (f : File) (t : ℕ) (x : List ℕ) (refusal : Refusal) → key_refusal changes f t x ≡ Some refusal → cause_in_refusal refusal ≡ None
without_cause changes f t x refusal is = subst (λ (o : Option Refusal). Without o) is (by_phase (phase_at f t))
  where
    Without : Option Refusal → Type 0
    Without None = Unit {0}
    Without (Some refusal) = cause_in_refusal refusal ≡ None

    by_log : (b : Bool) → Without (if b then Some refusals.LogFull else None)
    by_log true = refl
    by_log false = tt

    by_owner : (o : Option ℕ) → Without (held_refusal changes f o)
    by_owner None = by_log _
    by_owner (Some owner) = refl

    by_phase : (o : Option Phase) → Without (active_refusal (held_refusal changes f (held_by f t x)) o)
    by_phase None = refl
    by_phase (Some (phases.Rolling ends)) = refl
    by_phase (Some phases.Active) = by_owner (held_by f t x)

-- and is one that the file alone decides
pub key_by_file : (changes : Bool) (f : File) (t : ℕ) (x : List ℕ) (refusal : Refusal) → key_refusal changes f t x ≡ Some refusal → by_file refusal ≡ true
key_by_file changes f t x refusal is = subst (λ (o : Option Refusal). ByFile o) is (by_phase (phase_at f t))
  where
    ByFile : Option Refusal → Type 0
    ByFile None = Unit {0}
    ByFile (Some refusal) = by_file refusal ≡ true

    by_log : (b : Bool) → ByFile (if b then Some refusals.LogFull else None)
    by_log true = refl
    by_log false = tt

    by_owner : (o : Option ℕ) → ByFile (held_refusal changes f o)
    by_owner None = by_log _
    by_owner (Some owner) = refl

    by_phase : (o : Option Phase) → ByFile (active_refusal (held_refusal changes f (held_by f t x)) o)
    by_phase None = refl
    by_phase (Some (phases.Rolling ends)) = refl
    by_phase (Some phases.Active) = by_owner (held_by f t x)

-- rollbacks

-- a step writes at its key where its record tells of a write
pub step_told : (x : List ℕ) (w : Option (Option (List ℕ))) (lsn prev : ℕ) (t : TxId) (next : ℕ) → restores (step_of x w) ≡ is_some (new_of (back_record lsn prev t x w next))
step_told x None lsn prev t next = refl
step_told x (Some w) lsn prev t next = refl

-- a step that is refused writes at its key
pub refused_restores : (b : Bool) (fault : TableFault) → (b ≡ false → ◌≡◌ {A = Result (Unit {0}) TableFault} (Err fault) (Ok tt)) → b ≡ true
refused_restores true fault claim = refl
refused_restores false fault claim = absurd (let is = claim refl in cc)

sets_on : (n : ℕ) (rs more : List LogRecord) → sets_told n (rs ++ more) ≡ sets_told (sets_told n rs) more
sets_on n [] more = refl
sets_on n (r ∷ rs) more = sets_on (counted n (is_some (new_of r))) rs more

-- what is seen of a file whose table and log stay
pub undo_none : {T : Type 0} (t : Ghosts T) (old new : OpenFile T) → new.table ≡ old.table → new.log ≡ old.log → UndoAsks (seen t old) None (seen t new)
undo_none t old new table log = record {
  more = [];
  no_room = false;
  grown = log ∙ sym (append-nil old.log);
  sets = ap (λ x. (t.calls x).sets) table;
  gets = ap (λ x. (t.calls x).gets) table;
  lists = ap (λ x. (t.calls x).lists) table;
  no_rooms = ap (λ x. (t.calls x).no_rooms) table;
  lost = ap (λ x. t.damages x) table;
}

nothing_lost : (b : Bool) (old new : Damages) → TellsLost b old None new → b ≡ false
nothing_lost true old new lost = absurd (let is = lost.0 in cc)
nothing_lost false old new lost = refl

nothing_told : (b : Bool) (old new : Damages) → TellsLost b old None new → new ≡ old
nothing_told true old new lost = lost.1
nothing_told false old new lost = lost

-- nothing was asked
pub undo_nothing : (s : Seen) → UndoAsks s None s
undo_nothing s = record {
  more = [];
  no_room = false;
  grown = sym (append-nil s.log);
  sets = refl;
  gets = refl;
  lists = refl;
  no_rooms = refl;
  lost = refl;
}

-- a rollback that nothing stopped goes on
pub undo_then : (old mid new : Seen) (cause : Option Cause) → UndoAsks old None mid → UndoAsks mid cause new → UndoAsks old cause new
undo_then old mid new cause first next = record {
  more = first.more ++ next.more;
  no_room = next.no_room;
  grown = next.grown ∙ ap (λ rs. rs ++ next.more) first.grown ∙ append_assoc old.log first.more next.more;
  sets = next.sets ∙ ap (λ n. counted (sets_told n next.more) (is_some cause)) first.sets ∙ ap (λ n. counted n (is_some cause)) (sym (sets_on old.calls.sets first.more next.more));
  gets = next.gets ∙ first.gets;
  lists = next.lists ∙ first.lists;
  no_rooms = next.no_rooms ∙ ap (λ n. counted n next.no_room) (first.no_rooms ∙ ap (counted old.calls.no_rooms) (nothing_lost first.no_room _ _ first.lost));
  lost = subst (λ d. TellsLost next.no_room d cause new.damages) (nothing_told first.no_room _ _ first.lost) next.lost;
}
