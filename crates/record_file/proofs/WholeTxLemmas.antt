-- Each rollback under way that ends its transaction goes back to the beginning.
use Rattle.std.proofs.Common.{◌≡◌, ℕ, Bool, true, false, cond, if◌then◌else◌, List, Option, Some, None, sym, ap, subst, IsTrue}
use Rattle.std.specs.FinMap as maps
use Rattle.std.specs.FinMap.{get, get-empty}
use Rattle.std.specs.Ordering.{nat_cmp}
use Rattle.tx_log.specs.LogState.{active_with, rolling_to, finished, finished_by}
use Rattle.tx_log.specs.Transactions.{Transactions, Tx, place_of_savepoint}
use Rattle.tx_log.specs.declared.phase.Rollback.{Rollback}
use Rattle.record_file.specs.Abstract.{EndsAtBeginning, IsWholeTx, AbortsWhole}
use Rattle.record_file.proofs.OpenTxLemmas.{same_tx, get-insert_tx, get-remove_tx}

-- where no transaction is open
pub whole_empty : AbortsWhole maps.empty
whole_empty t = subst IsWholeTx (sym (get-empty nat_cmp t)) tt

-- where one is written for which it does
pub whole_insert : (txs : Transactions) (n : ℕ) (tx : Tx) → EndsAtBeginning tx.rollback → AbortsWhole txs → AbortsWhole (maps.insert txs n tx)
whole_insert txs n tx here whole t = subst IsWholeTx (sym (get-insert_tx txs n tx t)) (at (same_tx t n) (whole t))
  where
    at : (b : Bool) → IsWholeTx (get txs t) → IsWholeTx (cond b (Some tx) (get txs t))
    at true others = here
    at false others = others

-- where one is taken out
pub whole_remove : (txs : Transactions) (n : ℕ) → AbortsWhole txs → AbortsWhole (maps.remove txs n)
whole_remove txs n whole t = subst IsWholeTx (sym (get-remove_tx txs n t)) (at (same_tx t n) (whole t))
  where
    at : (b : Bool) → IsWholeTx (get txs t) → IsWholeTx (cond b None (get txs t))
    at true others = tt
    at false others = others

-- where a rollback is over
pub whole_finished : (txs : Transactions) (n : ℕ) (o : Option Tx) → AbortsWhole txs → AbortsWhole (finished txs n o)
whole_finished txs n None whole = whole
whole_finished txs n (Some tx) whole = at tx.rollback
  where
    over : (b : Bool) → AbortsWhole (if b then maps.remove txs n else maps.insert txs n (active_with tx.places))
    over true = whole_remove txs n whole
    over false = whole_insert txs n (active_with tx.places) tt whole

    at : (r : Option Rollback) → AbortsWhole (finished_by txs n tx.places r)
    at None = whole
    at (Some r) = over r.ends

-- a rollback that starts so
pub rolling_whole : (places : List ℕ) (n : ℕ) (ends : Bool) → (IsTrue ends → n ≡ 0) → EndsAtBeginning (rolling_to places n ends).rollback
rolling_whole places n ends whole over = ap (place_of_savepoint places) (whole over)
