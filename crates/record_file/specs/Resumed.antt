-- A rollback that was stopped, and resumed until it was finished.
use Rattle.std.specs.Prelude.{◌≡◌, ℕ, zero, not, ◌&&◌, if◌then◌else◌, List, ◌++◌, length, filter, slice_get, Some, Ok, Err}
use Rattle.rec_types.specs.History.{Change, take_back}
use Rattle.tx_log.specs.Log.{tells_change}
use Rattle.tx_log.specs.LogLaws.{undoes}
use Rattle.tx_log.specs.Transactions.{place_of_savepoint}
use Rattle.tx_log.specs.declared.log_record.LogRecord.{LogRecord}
use Rattle.record_file.specs.Abstract.{File}
use Rattle.record_file.specs.Runs.{Called, Seen, RollbackTo, Abort, Resume}
use Rattle.record_file.specs.Steps.{places_at}
use Rattle.record_file.specs.declared.fault.AbortFault.TheVariants as abort_faults
use Rattle.record_file.specs.declared.fault.RollbackToFault.TheVariants as rollback_faults

-- the call was stopped in a rollback of the transaction to the place
abbrev pub StopsFirst : File → ℕ → ℕ → Called → Type 0
StopsFirst f t p (RollbackTo tx n (Err (rollback_faults.Stopped undone left cause))) = (tx.0 ≡ t) × (p ≡ place_of_savepoint (places_at f t) n)
StopsFirst f t p (Abort tx (Err (abort_faults.Stopped undone left cause))) = (tx.0 ≡ t) × (p ≡ zero)
StopsFirst f t p called = ⊥

-- the call went on with the transaction's rollback and finished it
abbrev pub Finishes : ℕ → Called → Type 0
Finishes t (Resume tx (Ok undone)) = tx.0 ≡ t
Finishes t called = ⊥

-- Each of the transaction's changes has become what the whole take makes of it: its live changes from the place on are
-- taken back, and its others are as they were.
abbrev pub TakesWhole : Seen → ℕ → ℕ → Seen → Type 0
TakesWhole old t p new =
    (i : ℕ) (past : Change) → slice_get old.file.history i ≡ Some past → past.tx ≡ t
    → slice_get new.file.history i ≡ slice_get (take_back old.file.history t p) i

-- The log grew by one compensation, or unclaim, of each change of the whole take, and by none of another change of the
-- transaction.
abbrev pub CompensatesTake : Seen → ℕ → ℕ → Seen → Type 0
CompensatesTake old t p new =
    (more : List LogRecord) × (new.log ≡ old.log ++ more)
    × ((i : ℕ) (update : LogRecord) (past taken : Change)
    → slice_get (filter tells_change old.log) i ≡ Some update
    → slice_get old.file.history i ≡ Some past → past.tx ≡ t
    → slice_get (take_back old.file.history t p) i ≡ Some taken
    → length (filter (undoes update) more) ≡ (if past.live && not taken.live then 1 else 0))
