-- What a log of transactions stands for.
use Rattle.std.specs.Prelude.{◌≡◌, ℕ, ◌+◌, ◌<◌, ◌≤◌, Bool, true, if◌then◌else◌, List, [], ◌∷◌, ◌++◌, length, take, reverse, Option, Some, None, option_map, refl, IsTrue}
use Rattle.std.specs.Coded.{Coded, code_by, coded×, coded_ℕ, coded_bool, coded_list, coded_option}
use Rattle.std.specs.FinMap as maps
use Rattle.rec_types.specs.LimitBounds.{Bounds, coded_bounds}
use Rattle.rec_types.specs.History.{Change, log_len, log_use}
use Rattle.rec_types.specs.Kept.{Kept, history_of, back_of, newest_from, undone, IsOwned, AllBegun}
use Rattle.rec_types.specs.declared.transaction.TxId.{TxId}
use Rattle.tx_log.specs.Log.{prev_of, record_at, last_of, change_record, back_record}
use Rattle.tx_log.specs.LogCode.{coded_log_record}
use Rattle.tx_log.specs.declared.log_record.LogRecord.{LogRecord}
use Rattle.tx_log.specs.Transactions.{Transactions, Tx, coded_transactions, is_open, place_of_savepoint, most_savepoints}
use Rattle.tx_log.specs.declared.phase.Rollback.{Rollback}
use Rattle.tx_log.specs.declared.phase.Phase.{Phase}
use Rattle.tx_log.specs.declared.phase.Phase.TheVariants.{Active, Rolling}
use Rattle.tx_log.specs.declared.phase.UndoStep.{UndoStep}
use Rattle.tx_log.specs.declared.phase.UndoStep.TheVariants.{Restore, Unclaim}

-- the log and its changes, both oldest first; the open transactions; how many were begun; the limits; the key with room for a change
pub record LogState : Type 0 where
  pub records : List LogRecord
  pub changes : List Kept
  pub txs : Transactions
  pub begun : ℕ
  pub limits : Bounds
  pub room : Option (List ℕ)

abbrev pub coded_kept : Coded Kept
coded_kept = code_by (ℕ × (ℕ × (List ℕ × (Option (List ℕ) × (Option (Option (List ℕ)) × Bool)))))
    (coded× coded_ℕ (coded× coded_ℕ (coded× (coded_list coded_ℕ) (coded× (coded_option (coded_list coded_ℕ)) (coded× (coded_option (coded_option (coded_list coded_ℕ))) coded_bool)))))
    (λ c. (c.lsn, (c.tx, (c.key, (c.before, (c.after, c.live))))))
    (λ p. record { lsn = p.0; tx = p.1.0; key = p.1.1.0; before = p.1.1.1.0; after = p.1.1.1.1.0; live = p.1.1.1.1.1 })
    (λ _. refl)

abbrev pub coded_log_state : Coded LogState
coded_log_state = code_by (List LogRecord × (List Kept × (Transactions × (ℕ × (Bounds × Option (List ℕ))))))
    (coded× (coded_list coded_log_record) (coded× (coded_list coded_kept) (coded× coded_transactions (coded× coded_ℕ (coded× coded_bounds (coded_option (coded_list coded_ℕ)))))))
    (λ s. (s.records, (s.changes, (s.txs, (s.begun, (s.limits, s.room))))))
    (λ p. record { records = p.0; changes = p.1.0; txs = p.1.1.0; begun = p.1.1.1.0; limits = p.1.1.1.1.0; room = p.1.1.1.1.1 })
    (λ _. refl)

abbrev pub history_in : LogState → List Change
history_in s = history_of s.changes

abbrev pub open_in : LogState → ℕ → Bool
open_in s t = is_open s.txs t

abbrev pub tx_in : LogState → ℕ → Option Tx
tx_in s t = maps.get s.txs t

abbrev pub use_in : LogState → ℕ
use_in s = log_use (open_in s) (history_in s)

-- nothing has happened
abbrev pub new_log : Bounds → LogState
new_log limits = record { records = []; changes = []; txs = maps.empty; begun = 0; limits = limits; room = None }

abbrev pub rollback_phase : Option Rollback → Phase
rollback_phase None = Active
rollback_phase (Some r) = Rolling r.ends

abbrev pub phase_of : Tx → Phase
phase_of tx = rollback_phase tx.rollback

abbrev pub phase_in : LogState → ℕ → Option Phase
phase_in s t = option_map phase_of (tx_in s t)

-- a transaction that is open and isn't rolling back
abbrev pub IsActive : LogState → ℕ → Type 0
IsActive s t = phase_in s t ≡ Some Active

abbrev pub step_of : List ℕ → Option (Option (List ℕ)) → UndoStep
step_of key None = Unclaim key
step_of key (Some before) = Restore key before

abbrev pub undo_step : Kept → UndoStep
undo_step c = step_of c.key (back_of c)

abbrev pub undo_from : List Kept → ℕ → Option Rollback → Option Kept
undo_from cs t None = None
undo_from cs t (Some r) = newest_from cs t r.to

-- the change that a rollback under way takes back next: the newest live one at its place or above
abbrev pub undo_of : List Kept → ℕ → Option Tx → Option Kept
undo_of cs t None = None
undo_of cs t (Some tx) = undo_from cs t tx.rollback

abbrev pub undo_in : LogState → ℕ → Option Kept
undo_in s t = undo_of s.changes t (tx_in s t)

-- the record of a change, at the end of the log
abbrev pub update_in : LogState → TxId → List ℕ → Option (List ℕ) → Option (Option (List ℕ)) → LogRecord
update_in s tx key before after = change_record (length s.records + 1) (last_of tx.0 (reverse s.records)) tx key before after

abbrev pub prev_in : Option LogRecord → ℕ
prev_in None = 0
prev_in (Some r) = prev_of r

abbrev pub compensations_of : LogState → TxId → Option Kept → List LogRecord
compensations_of s tx None = []
compensations_of s tx (Some c) = back_record (length s.records + 1) (last_of tx.0 (reverse s.records)) tx c.key (back_of c) (prev_in (record_at s.records c.lsn)) ∷ []

-- the record of the taking back of the next change, at the end of the log
abbrev pub compensations_in : LogState → TxId → List LogRecord
compensations_in s tx = compensations_of s tx (undo_in s tx.0)

abbrev pub places_of : Option Tx → List ℕ
places_of None = []
places_of (Some tx) = tx.places

abbrev pub places_in : LogState → ℕ → List ℕ
places_in s t = places_of (tx_in s t)

-- with these open transactions; the room is gone
abbrev pub with_txs : LogState → Transactions → LogState
with_txs s txs = record s { txs = txs; room = None }

-- with one more change, live, and its record; the room is gone
abbrev pub with_update : LogState → TxId → List ℕ → Option (List ℕ) → Option (Option (List ℕ)) → LogState
with_update s tx key before after = record s {
  records = s.records ++ update_in s tx key before after ∷ [];
  changes = s.changes ++ record { lsn = log_len (history_in s) + 1; tx = tx.0; key = key; before = before; after = after; live = true } ∷ [];
  room = None;
}

-- without the change that a rollback under way takes back next, and with its compensation; the room is gone
abbrev pub with_compensation : LogState → TxId → LogState
with_compensation s tx = record s { records = s.records ++ compensations_in s tx; changes = undone tx.0 s.changes; room = None }

abbrev pub active_with : List ℕ → Tx
active_with places = record { rollback = None; places = places }

-- a rollback to savepoint n, which keeps the first n places
abbrev pub rolling_to : List ℕ → ℕ → Bool → Tx
rolling_to places n ends = record { rollback = Some (record { to = place_of_savepoint places n; ends = ends }); places = take n places }

abbrev pub finished_by : Transactions → ℕ → List ℕ → Option Rollback → Transactions
finished_by txs t places None = txs
finished_by txs t places (Some r) = if r.ends then maps.remove txs t else maps.insert txs t (active_with places)

-- a rollback under way is over: the transaction has ended, or is active again
abbrev pub finished : Transactions → ℕ → Option Tx → Transactions
finished txs t None = txs
finished txs t (Some tx) = finished_by txs t tx.places tx.rollback

-- a rollback is under way
abbrev pub IsRolling : Option Phase → Type 0
IsRolling None = ⊥
IsRolling (Some Active) = ⊥
IsRolling (Some (Rolling ends)) = Unit {0}

-- what is true of every log
pub record IsLog (s : LogState) : Type 0 where
  pub opens : (t : ℕ) → IsTrue (open_in s t) → (0 < t) × (t ≤ s.begun)
  pub begun : AllBegun s.begun s.changes
  pub owned : IsOwned (open_in s) s.changes
  pub fits : use_in s ≤ s.limits.log_records
  pub bounded : s.begun ≤ s.limits.begins
  pub depths : (t : ℕ) → length (places_in s t) ≤ most_savepoints
