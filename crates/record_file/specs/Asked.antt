-- What a call of a file asks of its table, and how often.
use Rattle.std.specs.Prelude.{◌≡◌, ℕ, Bool, true, false, ◌&&◌, ◌||◌, nat_le, not, is_some, is_none, if◌then◌else◌, List, [], ◌∷◌, ◌++◌, Option, Some, Result, Err, IsTrue, IfOk}
use Rattle.std.specs.FinMap as maps
use Rattle.rec_types.specs.Calls.{with_get, is_no_room}
use Rattle.rec_types.specs.Table.{counted, Damages}
use Rattle.rec_types.specs.declared.table.TableFault.{TableFault}
use Rattle.rec_types.specs.declared.table_calls.TableCalls.{TableCalls}
use Rattle.tx_log.specs.Log.{new_of}
use Rattle.tx_log.specs.Owners.{owner_of}
use Rattle.tx_log.specs.declared.log_record.LogRecord.{LogRecord}
use Rattle.tx_log.specs.declared.phase.UndoStep.{UndoStep}
use Rattle.tx_log.specs.declared.phase.UndoStep.TheVariants.{Restore, Unclaim}
use Rattle.record_file.specs.Abstract.{File, open_of, charged_of}
use Rattle.record_file.specs.Outside.{named_by}
use Rattle.record_file.specs.Seen.{Seen}
use Rattle.record_file.specs.declared.fault.Cause.{Cause}
use Rattle.record_file.specs.declared.fault.Cause.TheVariants.{Damaged}
use Rattle.record_file.specs.declared.fault.PutFault.{PutFault}
use Rattle.record_file.specs.declared.fault.PutFault.TheVariants as put_faults
use Rattle.record_file.specs.declared.fault.RemoveFault.{RemoveFault}
use Rattle.record_file.specs.declared.fault.RemoveFault.TheVariants as remove_faults

-- the table's counts after a call that asks for nothing but one look, and for nothing at all where the file alone refuses it
abbrev pub looked_unless : Bool → TableCalls → TableCalls
looked_unless refused calls = if refused then calls else with_get calls

-- what a change asks: whether it looks, and whether it sets; whether there was no room for that; and whether nothing was found where a record was seen
pub record Asked : Type 0 where
  pub looks : Bool
  pub sets : Bool
  pub no_room : Bool
  pub lost : Bool

-- the table's counts after it; it lists nothing
abbrev pub after_asking : TableCalls → Asked → TableCalls
after_asking calls a = record calls { gets = counted calls.gets a.looks; sets = counted calls.sets a.sets; no_rooms = counted calls.no_rooms a.no_room; misses = counted calls.misses a.lost }

-- What no sound table answers is told as page 0. Else no damaged page is told but what the table named.
abbrev pub TellsLost : Bool → Damages → Option Cause → Damages → Type 0
TellsLost true old cause new = (cause ≡ Some (Damaged 0)) × (new ≡ old)
TellsLost false old cause new = new ≡ named_by old cause

-- A change asks its table for what it may. That there was no room, or that a record was lost, is told as page 0.
pub record Asks (may : Asked → Type 0) (old : Seen) (cause : Option Cause) (new : Seen) : Type 0 where
  pub asked : Asked
  pub allowed : may asked
  pub calls : new.calls ≡ after_asking old.calls asked
  pub lost : TellsLost (asked.lost || asked.no_room) old.damages cause new.damages

-- the key has no owner, and the charged keys have reached the limit: the file is full for it if no record stands there
abbrev pub may_be_full : File → List ℕ → Bool
may_be_full f x = nat_le f.limits.records (maps.len (charged_of f)) && is_none (owner_of (open_of f) f.history x)

-- A put that is accepted sets once, and one that is Full sets nothing. Over a sound table it looks only where the file may be full.
pub record MayPut (sound : Bool) (f : File) (x : List ℕ) (answer : Result (Option (List ℕ)) PutFault) (a : Asked) : Type 0 where
  pub accepted : IfOk answer (λ _. IsTrue a.sets)
  pub full : answer ≡ Err put_faults.Full → a.sets ≡ false
  pub looks : IsTrue sound → IsTrue a.looks → IsTrue (may_be_full f x)

-- A removal that is accepted sets once, and one that is Absent sets nothing. It looks once, unless the file alone refuses it.
pub record MayRemove (refused : Bool) (answer : Result (List ℕ) RemoveFault) (a : Asked) : Type 0 where
  pub accepted : IfOk answer (λ _. IsTrue a.sets)
  pub absent : answer ≡ Err remove_faults.Absent → a.sets ≡ false
  pub looks : a.looks ≡ not refused

-- the step writes at its key: that of a change, and not that of a claim
abbrev pub restores : UndoStep → Bool
restores (Restore key before) = true
restores (Unclaim key) = false

-- what an undo step asks of a table
pub record StepAsks (old : TableCalls) (step : UndoStep) (answer : Result (Unit {0}) TableFault) (new : TableCalls) : Type 0 where
  pub sets : new.sets ≡ counted old.sets (restores step)
  pub gets : new.gets ≡ old.gets
  pub lists : new.lists ≡ old.lists
  pub no_rooms : new.no_rooms ≡ counted old.no_rooms (is_no_room answer)

-- a count of calls of `set` after these records were written to the log: one more for each that tells of a write, and none for a claim or its taking back
abbrev pub sets_told : ℕ → List LogRecord → ℕ
sets_told n [] = n
sets_told n (r ∷ rs) = sets_told (counted n (is_some (new_of r))) rs

-- A rollback sets once for each compensation that it logs, and once more where it is stopped; it looks at nothing and lists nothing. That there was no room stops it, and is told as page 0.
pub record UndoAsks (old : Seen) (cause : Option Cause) (new : Seen) : Type 0 where
  pub more : List LogRecord
  pub no_room : Bool
  pub grown : new.log ≡ old.log ++ more
  pub sets : new.calls.sets ≡ counted (sets_told old.calls.sets more) (is_some cause)
  pub gets : new.calls.gets ≡ old.calls.gets
  pub lists : new.calls.lists ≡ old.calls.lists
  pub no_rooms : new.calls.no_rooms ≡ counted old.calls.no_rooms no_room
  pub lost : TellsLost no_room old.damages cause new.damages
