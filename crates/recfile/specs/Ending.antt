-- What ending every open transaction leaves.
use Rattle.std.specs.Prelude.{◌≡◌, ◌≢◌, ◌⊎◌, ℕ, zero, ◌<◌, Bool, true, false, not, ◌&&◌, nat_lt, if◌then◌else◌, List, map, filter, Option, Some, None, Result, Ok, Err, IsTrue}
use Rattle.std.specs.FinMap as maps
use Rattle.rec_types.specs.History.{Change, is_pending, taken_back, take_back}
use Rattle.rec_types.specs.Table.{counted, greatest_count}
use Rattle.rec_types.specs.declared.transaction.TxId.{TxId}
use Rattle.tx_log.specs.Transactions.{Transactions, is_open}
use Rattle.tx_log.specs.LogState.{IsRolling}
use Rattle.record_file.specs.Abstract.{File, Tells, open_of, phase_at}
use Rattle.record_file.specs.Asked.{UndoAsks}
use Rattle.record_file.specs.Outside.{by_device, by_memory, TellsDamage}
use Rattle.record_file.specs.Runs.{Seen}
use Rattle.record_file.specs.Steps.{rose, EndsBy, Becomes, Aborts, Resumes}
use Rattle.record_file.specs.declared.fault.Cause.{Cause}
use Rattle.record_file.specs.declared.fault.AbortFault.{AbortFault}
use Rattle.record_file.specs.declared.fault.AbortFault.TheVariants as abort_faults
use Rattle.record_file.specs.declared.fault.ResumeFault.{ResumeFault}
use Rattle.record_file.specs.declared.fault.ResumeFault.TheVariants as resume_faults
use Rattle.recfile.specs.declared.endings.EndFault.{EndFault}
use Rattle.recfile.specs.declared.endings.EndFault.TheVariants.{Stopped}

-- a change taken back where it is a live one of these transactions
abbrev pub undone_in : (ℕ → Bool) → Change → Change
undone_in these c = if is_pending these c then taken_back c else c

-- every live change of these transactions is taken back
abbrev pub without : (ℕ → Bool) → List Change → List Change
without these h = map (undone_in these) h

-- the changes that stay: all but the live ones of these transactions
abbrev pub rest_of : (ℕ → Bool) → List Change → List Change
rest_of these h = filter (λ c. not (is_pending these c)) h

-- the open transactions below a number
abbrev pub below : Transactions → ℕ → ℕ → Bool
below txs n t = is_open txs t && nat_lt t n

-- An open transaction has ended, with all its live changes taken back.
pub record EndsOne (old : File) (t : ℕ) (new : File) : Type 0 where
  pub there : IsTrue (open_of old t)
  pub history : new.history ≡ take_back old.history t zero
  pub rest : Becomes old new.history (maps.remove old.txs t) new

-- whether a transaction was open; then it has ended
abbrev pub EndsOpen : File → ℕ → Bool → File → Type 0
EndsOpen old t true new = EndsOne old t new
EndsOpen old t false new = (open_of old t ≡ false) × (new ≡ old)

-- A rollback under way was stopped, or the abort of an active transaction, or that of one that was made active first.
abbrev pub StopsOne : File → EndFault → File → Type 0
StopsOne old (Stopped tx undone left cause) new =
    Resumes old tx.0 (Err (resume_faults.Stopped undone left cause)) new
    ⊎ (Aborts old tx.0 (Err (abort_faults.Stopped undone left cause)) new
    ⊎ ((mid : File) × (more : ℕ) × Resumes old tx.0 (Ok more) mid × Aborts mid tx.0 (Err (abort_faults.Stopped undone left cause)) new))

-- The open transactions below n have ended, with all their live changes taken back. The others are untouched.
pub record EndsBelow (old : File) (n : ℕ) (new : File) : Type 0 where
  pub history : new.history ≡ without (below old.txs n) old.history
  pub txs : (t : ℕ) → maps.get new.txs t ≡ (if nat_lt t n then None else maps.get old.txs t)
  pub rest : Becomes old new.history new.txs new

-- Every open transaction has ended; so many were open, and exactly their live changes are taken back.
pub record EndsAll (old : File) (ended : ℕ) (new : File) : Type 0 where
  pub count : ended ≡ maps.len old.txs
  pub history : new.history ≡ without (open_of old) old.history
  pub rest : Becomes old new.history maps.empty new

abbrev pub stopped_tx : EndFault → ℕ
stopped_tx (Stopped tx undone left cause) = tx.0

abbrev pub stop_of : EndFault → Cause
stop_of (Stopped tx undone left cause) = cause

-- The open transactions below one have ended. Then that one was stopped, and is rolling. Those above are untouched.
pub record StopsEnding (old : File) (fault : EndFault) (new : File) : Type 0 where
  pub mid : File
  pub ended : EndsBelow old (stopped_tx fault) mid
  pub stopped : StopsOne mid fault new
  pub rolling : IsRolling (phase_at new (stopped_tx fault))
  pub others : (t : ℕ) → t ≢ stopped_tx fault → maps.get new.txs t ≡ (if nat_lt t (stopped_tx fault) then None else maps.get old.txs t)

abbrev pub end_cause : {A : Type 0} → Result A EndFault → Option Cause
end_cause (Ok answer) = None
end_cause (Err fault) = Some (stop_of fault)

-- What calls one after another asked of the table, where none but the last may have been stopped: its counts tell of
-- the cause and of nothing else, the log of what became of the records and of how often the table was asked, and over a
-- sound table the opening contents stay, and it is known what stopped the call.
pub record EndingAsks (old : Seen) (cause : Option Cause) (new : Seen) : Type 0 where
  pub failures : new.failures ≡ counted old.failures (by_device cause)
  pub refusals : new.refusals ≡ counted old.refusals (by_memory cause)
  pub damages : TellsDamage old.damages cause new.damages
  pub sound : new.sound ≡ old.sound
  pub told : Tells old.sound old.records old.log new.records new.log
  pub opening : IsTrue old.sound → new.file.opening ≡ old.file.opening
  pub caused : IsTrue old.sound → old.failures < greatest_count → old.refusals < greatest_count → EndsBy (rose old.failures new.failures) (rose old.refusals new.refusals) cause
  pub asked : UndoAsks old cause new

-- what ending answers to that of going on with a transaction's rollback: whether the transaction was open
abbrev pub resumed : TxId → Result ℕ ResumeFault → Result Bool EndFault
resumed tx (Ok undone) = Ok true
resumed tx (Err resume_faults.NoSuchTx) = Ok false
resumed tx (Err resume_faults.NotRolling) = Ok true
resumed tx (Err (resume_faults.Stopped undone left cause)) = Err (Stopped tx undone left cause)

-- and to that of its abort
abbrev pub aborted : TxId → Result ℕ AbortFault → Result (Unit {0}) EndFault
aborted tx (Err (abort_faults.Stopped undone left cause)) = Err (Stopped tx undone left cause)
aborted tx answer = Ok tt
