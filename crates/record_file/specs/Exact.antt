-- What is true of a file after every run.
use Rattle.std.specs.Prelude.{◌≡◌, ◌↔◌, ℕ, Bool, not, ◌&&◌, if◌then◌else◌, List, ◌∷◌, ◌++◌, length, map, filter, slice_get, Some, IsTrue}
use Rattle.rec_types.specs.Contents.{Contents}
use Rattle.rec_types.specs.History.{Change}
use Rattle.rec_types.specs.Kept.{change_of}
use Rattle.rec_types.specs.declared.transaction.TxId.{TxId}
use Rattle.tx_log.specs.Log.{tells_change}
use Rattle.tx_log.specs.LogLaws.{undoes, change_told}
use Rattle.tx_log.specs.Owners.{owner_of}
use Rattle.tx_log.specs.declared.log_record.LogRecord.{LogRecord}
use Rattle.record_file.specs.Abstract.{File, open_of, records_of, owns}
use Rattle.record_file.specs.Runs.{Seen}

pub record IsExact (sound : Bool) (now : Contents) (f : File) (log : List LogRecord) : Type 0 where
  -- over a sound table the records are the replay of the live changes
  pub records : IsTrue sound → now ≡ records_of f
  -- an open transaction owns a key exactly where one of its live changes is at the key
  pub owners : (t : ℕ) (x : List ℕ)
      → (owner_of (open_of f) f.history x ≡ Some t) ↔ IsTrue (owns f t x)
  -- the log's updates and claims tell of the changes
  pub changes : f.history ≡ map (λ u. change_of (change_told log u)) (filter tells_change log)
  -- exactly those of the changes that were taken back are compensated, each once
  pub compensated : (older newer : List LogRecord) (u : LogRecord)
      → log ≡ older ++ u ∷ newer → IsTrue (tells_change u)
      → length (filter (undoes u) log) ≡ (if (change_told log u).live then 0 else 1)

-- The log grew by one compensation, or unclaim, of each change that was live and is no longer, and by none of any other.
-- The log's updates and claims are the history's changes, in order.
abbrev pub CompensatesOnce : Seen → Seen → Type 0
CompensatesOnce old new =
    (more : List LogRecord) × (new.log ≡ old.log ++ more)
    × ((i : ℕ) (update : LogRecord) (past now : Change)
    → slice_get (filter tells_change old.log) i ≡ Some update
    → slice_get old.file.history i ≡ Some past → slice_get new.file.history i ≡ Some now
    → length (filter (undoes update) more) ≡ (if past.live && not now.live then 1 else 0))

abbrev pub IsExactSeen : Seen → Type 0
IsExactSeen s = IsExact s.sound s.records s.file s.log

-- the transaction with number 1
abbrev pub one : TxId
one = record { 0 = 1 }
