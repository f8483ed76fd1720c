-- The first steps of a run.
use Rattle.std.proofs.Common.{◌≡◌, ℕ, ◌<◌, ◌≤◌, Bool, true, false, cond, length, Option, Some, is_some, refl, sym, ap, subst, ◌∙◌, arith}
use Rattle.std.specs.FinMap as maps
use Rattle.std.specs.FinMap.{get-empty}
use Rattle.std.specs.Ordering.{nat_cmp}
use Rattle.rec_types.specs.LimitBounds.{Bounds}
use Rattle.tx_log.specs.LogState.{places_of}
use Rattle.tx_log.specs.Transactions.{Tx, fresh, is_open, most_savepoints}
use Rattle.record_file.specs.Abstract.{File, new_file, tx_of}
use Rattle.record_file.specs.Runs.{Seen, IsKeptSeen}
use Rattle.record_file.specs.Undo.{Starts}
use Rattle.record_file.proofs.OpenTxLemmas.{same_tx, same_tx-is, get-insert_tx, open-insert}
use Rattle.record_file.proofs.WholeTxLemmas.{whole_insert}
use Rattle.record_file.proofs.TidyLogLemmas.{start_tidy, tidy_kept, IsBounded}

-- what stays true of a file is true of a start
pub start_kept_seen : (s : Seen) → Starts s → IsKeptSeen s
start_kept_seen s start = tidy_kept s (start_tidy s start) (subst IsBounded (sym start.file) (record { within = start.within; used = omega arith; begun = omega arith }))

begun_on : (s : Seen) (limits : Bounds) → IsKeptSeen (record s { file = new_file maps.empty limits }) → 1 ≤ limits.begins → IsKeptSeen (record s { file = record (new_file maps.empty limits) { begun = 1; txs = maps.insert maps.empty 1 fresh } })
begun_on s limits kept some = record {
  limited = refl;
  replayed = kept.replayed;
  within = kept.within;
  owned = λ t x owns. absurd (cc owns);
  written = kept.written;
  chained = kept.chained;
  used = omega arith;
  begun = some;
  opens = λ t there. opened t (same_tx t 1) refl (sym (open-insert maps.empty 1 fresh t) ∙ there);
  depths = λ t. subst (λ (o : Option Tx). length (places_of o) ≤ most_savepoints) (sym (get-insert_tx maps.empty 1 fresh t)) (few t (same_tx t 1));
  whole = whole_insert maps.empty 1 fresh tt kept.whole;
}
  where
    opened : (t : ℕ) (b : Bool) → same_tx t 1 ≡ b → cond b true (is_open maps.empty t) ≡ true → (0 < t) × (t ≤ 1)
    opened t true same there = let here = same_tx-is t 1 same in (omega (arith, here), omega (arith, here))
    opened t false apart there = absurd (cc (sym (ap is_some (get-empty nat_cmp t)) ∙ there))

    few : (t : ℕ) (b : Bool) → length (places_of (cond b (Some fresh) (tx_of (new_file maps.empty limits) t))) ≤ most_savepoints
    few t true = omega arith
    few t false = kept.depths t

-- so it is of the file in which the first transaction was begun
pub first_kept : (old : Seen) (limits : Bounds) → IsKeptSeen old → 1 ≤ limits.begins → old.file ≡ new_file maps.empty limits → IsKeptSeen (record old { file = record old.file { begun = 1; txs = maps.insert maps.empty 1 fresh } })
first_kept old limits kept some is =
    subst (λ (f : File). IsKeptSeen (record old { file = record f { begun = 1; txs = maps.insert maps.empty 1 fresh } })) (sym is)
    (begun_on old limits (subst (λ (f : File). IsKeptSeen (record old { file = f })) is kept) some)
