-- The laws of a log, on the whole of it. Its records stand oldest first.
use Rattle.std.specs.Prelude.{◌≡◌, ℕ, ◌+◌, ◌≤◌, Bool, true, false, not, ◌&&◌, ◌==◌, List, [], ◌∷◌, ◌++◌, length, map, filter, reverse}
use Rattle.std.specs.List.{list_any}
use Rattle.rec_types.specs.History.{log_len}
use Rattle.rec_types.specs.Kept.{Kept, history_of}
use Rattle.tx_log.specs.Log.{lsn_of, prev_of, tx_of_record, key_of_record, back_in, leads_to, tells_change, last_of, noted}
use Rattle.tx_log.specs.declared.log_record.LogRecord.{LogRecord}

-- an update of the transaction after the record n of that transaction
abbrev pub follows : ℕ → ℕ → LogRecord → Bool
follows t n u = tells_change u && ((tx_of_record u == t) && (prev_of u == n))

-- a compensation that names the update
abbrev pub undoes : LogRecord → LogRecord → Bool
undoes u c = not (tells_change c) && ((tx_of_record u == tx_of_record c) && (prev_of u == leads_to c))

-- the change of an update, live where no compensation names it
abbrev pub change_told : List LogRecord → LogRecord → Kept
change_told records u = record (noted u) { live = not (list_any (undoes u) records) }

pub record IsChained (records : List LogRecord) (changes : List Kept) : Type 0 where
  -- a record's number is its place
  pub numbers : (older newer : List LogRecord) (r : LogRecord) → records ≡ older ++ r ∷ newer → lsn_of r ≡ length older + 1
  -- each record leads to the newest one before it of its transaction
  pub prevs : (older newer : List LogRecord) (r : LogRecord) → records ≡ older ++ r ∷ newer → prev_of r ≡ last_of (tx_of_record r) (reverse older)
  -- a compensation names exactly one update, and puts back what stood at its key before it
  pub named : (older newer : List LogRecord) (c : LogRecord) → records ≡ older ++ c ∷ newer → tells_change c ≡ false → (u : LogRecord) × (filter (follows (tx_of_record c) (leads_to c)) records ≡ u ∷ []) × (key_of_record c ≡ key_of_record u) × (back_in c ≡ back_in u)
  -- no update is compensated twice
  pub once : (older newer : List LogRecord) (u : LogRecord) → records ≡ older ++ u ∷ newer → tells_change u ≡ true → length (filter (undoes u) records) ≤ 1
  -- the updates are the changes, and the compensated ones are those taken back
  pub told : changes ≡ map (change_told records) (filter tells_change records)
  pub whole : log_len (history_of changes) ≡ length records
