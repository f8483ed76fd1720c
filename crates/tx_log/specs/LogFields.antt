-- How a log lies in its fields.
use Rattle.std.specs.Prelude.{◌≡◌, ℕ, ◌+◌, ◌*◌, ◌≤◌, List, length, filter, reverse, Option, None, Some, IfSome}
use Rattle.std.specs.FinMap as maps
use Rattle.rec_types.specs.History.{is_pending}
use Rattle.rec_types.specs.Kept.{history_of, IsOwned, AllBegun}
use Rattle.rec_types.specs.LimitBounds.{Bounds, most_log_records, most_begins}
use Rattle.rec_types.specs.Widths.{widest_record}
use Rattle.tx_log.specs.Finds.{Txs, found}
use Rattle.tx_log.specs.Fits.{AllFit, AllKnown}
use Rattle.tx_log.specs.Log.{kept_of, IsNumbered, AllWritten}
use Rattle.tx_log.specs.Holdings.{holdings_in, HeldAt, IsHeld, AllBusy}
use Rattle.tx_log.specs.LogState.{LogState}
use Rattle.tx_log.specs.Marks.{AreMarked}
use Rattle.tx_log.specs.Owners.{keys_absent}
use Rattle.tx_log.specs.OpenTxs.{txs_of, opens}
use Rattle.tx_log.specs.declared.log_record.LogRecord.{LogRecord}
use Rattle.tx_log.specs.declared.log.TxLog.TheInside.{Inside}

-- the key that has room: that at which no change may be live, if it is kept where it stands
abbrev pub room_in : Option ℕ → Option (List ℕ) → Option (List ℕ)
room_in None over = None
room_in (Some at) over = over

abbrev pub log_state_of : Inside → LogState
log_state_of l = record {
  records = l.records.items;
  changes = kept_of (reverse l.records.items);
  txs = txs_of (kept_of (reverse l.records.items)) l.txs.entries;
  begun = l.begun;
  limits = l.limits;
  room = room_in l.room_at l.over;
}

-- a log, newest first, beside the open transactions, the number of those begun, and the counts
pub record IsKept (rs : List LogRecord) (txs : Txs) (begun pending gone : ℕ) : Type 0 where
  pub numbered : IsNumbered rs
  pub written : AllWritten rs
  pub fit : AllFit rs begun txs
  pub known : AllKnown begun rs
  pub all_begun : AllBegun begun (kept_of rs)
  pub owned : IsOwned (opens txs) (kept_of rs)
  pub pending_is : pending ≡ length (filter (is_pending (opens txs)) (history_of (kept_of rs)))
  pub absent_is : gone ≡ maps.len (keys_absent (opens txs) (kept_of rs))

pub record IsBounded (length pending begun : ℕ) (limits : Bounds) : Type 0 where
  pub fits : length + pending ≤ limits.log_records
  pub most_records : limits.log_records ≤ most_log_records
  pub within : begun ≤ limits.begins
  pub most_begins : limits.begins ≤ most_begins

-- room without taking memory: for the taking back of each pending change, and for two more where a key has room
pub record HasUndoRoom (length pending capacity : ℕ) (room_at : Option ℕ) : Type 0 where
  pub held : length + pending ≤ capacity
  pub spare : IfSome room_at (λ _. length + pending + 2 ≤ capacity)

pub record IsTxLog (l : Inside) : Type 0 where
  pub log_kept : IsKept (reverse l.records.items) (found l.txs) l.begun l.pending l.gone
  pub marked : AreMarked (reverse l.records.items) (reverse l.records.marks)
  pub holding : IsHeld (reverse l.records.items) (opens (found l.txs)) (holdings_in l.holdings)
  pub busy_keys : AllBusy (holdings_in l.holdings) l.over
  pub reserved : IfSome l.room_at (λ i. IfSome l.over (λ k. HeldAt l.holdings k i))
  pub bounded : IsBounded (length l.records.items) l.pending l.begun l.limits
  pub records_room : HasUndoRoom (length l.records.items) l.pending l.records.room l.room_at
  -- the bytes of a change's records have room where a key has
  pub bytes_room : IfSome l.room_at (λ _. 2 * widest_record ≤ l.records.free)
