-- What ties the open transactions to the log.
use Rattle.std.specs.Prelude.{◌≡◌, ℕ, ◌<◌, ◌≤◌, ◌==◌, List, [], ◌∷◌, length, Option, None, Some, IfSome}
use Rattle.std.specs.FinMap as maps
use Rattle.std.specs.List.{filter}
use Rattle.tx_log.specs.Log.{tx_of_record, last_of, stack, kept_of}
use Rattle.tx_log.specs.Owners.{keys_absent}
use Rattle.tx_log.specs.Finds.{Txs}
use Rattle.tx_log.specs.Transactions.{most_savepoints}
use Rattle.tx_log.specs.Walks.{is_after}
use Rattle.tx_log.specs.declared.log_record.LogRecord.{LogRecord}
use Rattle.tx_log.specs.declared.open_tx.OpenTx.{OpenTx}
use Rattle.tx_log.specs.declared.phase.Rollback.{Rollback}

abbrev pub AllUpTo : ℕ → List ℕ → Type 0
AllUpTo n [] = Unit {0}
AllUpTo n (s ∷ ss) = (s ≤ n) × AllUpTo n ss

abbrev pub RollbackUpTo : ℕ → Option Rollback → Type 0
RollbackUpTo n None = Unit {0}
RollbackUpTo n (Some r) = r.to ≤ n

-- each record is of one of the first n transactions
abbrev pub AllKnown : ℕ → List LogRecord → Type 0
AllKnown n [] = Unit {0}
AllKnown n (r ∷ rs) = (tx_of_record r ≤ n) × AllKnown n rs

-- how many of the live changes the rollback under way is still to take back
abbrev pub left_above : List LogRecord → Option Rollback → ℕ
left_above us None = 0
left_above us (Some r) = length (filter (is_after r.to) us)

-- the numbers that are kept of a transaction are those of the log, and among the first n begun
pub record FitsTx (rs : List LogRecord) (n t : ℕ) (e : OpenTx) : Type 0 where
  pub last : e.last ≡ last_of t rs
  pub live : e.live ≡ length (stack t rs)
  pub left : e.left ≡ left_above (stack t rs) e.rollback
  pub absent_keys : e.absent ≡ maps.len (keys_absent (λ u. u == t) (kept_of rs))
  pub saves : AllUpTo (length rs) e.saves.items
  pub depth : length e.saves.items ≤ most_savepoints
  pub rollback : RollbackUpTo (length rs) e.rollback
  pub some : 0 < t
  pub begun : t ≤ n

-- of each
abbrev pub AllFit : List LogRecord → ℕ → Txs → Type 0
AllFit rs n txs = (t : ℕ) → IfSome (txs t) (FitsTx rs n t)
