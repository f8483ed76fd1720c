-- Logs by example.
use Rattle.std.specs.Prelude.{ℕ, Bool, true, List, [], ◌∷◌, Option, Some, None}
use Rattle.std.specs.FinMap as maps
use Rattle.rec_types.specs.Kept.{Kept}
use Rattle.rec_types.specs.declared.transaction.TxId.{TxId}
use Rattle.tx_log.specs.LogState.{LogState, rolling_to}
use Rattle.tx_log.specs.Transactions.{fresh}
use Rattle.tx_log.specs.declared.log_record.LogRecord.{LogRecord}
use Rattle.tx_log.specs.declared.log_record.LogRecord.TheVariants.{Update, Compensation, Claim, Unclaim}

abbrev pub one : TxId
one = record { 0 = 1 }

abbrev pub byte : ℕ → List ℕ
byte b = b ∷ []

-- One transaction writes a, sets a savepoint, writes a and b, goes back to the savepoint, writes c, and goes back to its
-- beginning.
abbrev pub eight : List LogRecord
eight =
    Update 1 0 one (byte 97) None (Some (byte 49))
    ∷ Update 2 1 one (byte 97) (Some (byte 49)) (Some (byte 50))
    ∷ Update 3 2 one (byte 98) None (Some (byte 51))
    ∷ Compensation 4 3 one (byte 98) None 2
    ∷ Compensation 5 4 one (byte 97) (Some (byte 49)) 1
    ∷ Update 6 5 one (byte 99) None (Some (byte 52))
    ∷ Compensation 7 6 one (byte 99) None 5
    ∷ Compensation 8 7 one (byte 97) None 0
    ∷ []

-- One transaction writes a, claims a, claims b and writes it, claims c, and takes back all but the first change.
abbrev pub nine : List LogRecord
nine =
    Update 1 0 one (byte 97) None (Some (byte 49))
    ∷ Claim 2 1 one (byte 97) (Some (byte 49))
    ∷ Claim 3 2 one (byte 98) None
    ∷ Update 4 3 one (byte 98) None (Some (byte 50))
    ∷ Claim 5 4 one (byte 99) None
    ∷ Unclaim 6 5 one (byte 99) 4
    ∷ Compensation 7 6 one (byte 98) None 3
    ∷ Unclaim 8 7 one (byte 98) 2
    ∷ Unclaim 9 8 one (byte 97) 1
    ∷ []

-- A change of the first transaction at a, where this stood before: it writes [w] there, or was taken back.
abbrev pub changed_a : Option (List ℕ) → ℕ → Bool → Kept
changed_a before w live = record { lsn = w; tx = 1; key = byte 97; before = before; after = Some (Some (byte w)); live = live }

-- Three transactions: the first has written a, the second is being rolled back, and the third has written nothing. The log
-- may have n records.
abbrev pub with_a_written : ℕ → LogState
with_a_written n = record {
  records = Update 1 0 one (byte 97) None (Some (byte 49)) ∷ [];
  changes = record { lsn = 1; tx = 1; key = byte 97; before = None; after = Some (Some (byte 49)); live = true } ∷ [];
  txs = maps.insert (maps.insert (maps.insert maps.empty 1 fresh) 2 (rolling_to [] 0 true)) 3 fresh;
  begun = 3;
  limits = record { records = 9; log_records = n; begins = 9 };
  room = None;
}
