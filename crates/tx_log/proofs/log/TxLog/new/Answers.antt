use Rattle.std.proofs.Common.{◌≡◌, List, length, Option, Some, None, IfSome, reverse, sym, ap, subst, arith}
use Rattle.std.specs.Map.{lookup}
use Rattle.tx_log.proofs.HoldingLemmas.{held_nothing}
use Rattle.tx_log.proofs.MarkLemmas.{nothing_marked}
use Rattle.tx_log.specs.Finds.{found}
use Rattle.tx_log.specs.Holdings.{holdings_in, same_bytes, IsHeld}
use Rattle.tx_log.specs.OpenTxs.{opens}
use Rattle.tx_log.specs.declared.holding.Holding.{Holding}
use Rattle.tx_log.specs.declared.log_record.LogRecord.{LogRecord}
use Rattle.tx_log.proofs.LogStateLemmas.{kept_empty}
use Rattle.tx_log.proofs.log.TxLog.new.Goals as goal

pub invariant_of-result : goal.invariant_of-result
invariant_of-result c = record {
  log_kept = kept_empty (reverse c.new.result.items) c.new-2.result.entries (ap reverse c.new.ensures.items) c.new-2.ensures.empty;
  marked = nothing_marked (reverse c.new.result.items) (reverse c.new.result.marks) (ap reverse c.new.ensures.items) (ap reverse c.new.ensures.marks);
  holding = subst (λ (xs : List LogRecord). IsHeld xs (opens (found c.new-2.result)) (holdings_in c.new-3.result)) (sym (ap reverse c.new.ensures.items)) (held_nothing (holdings_in c.new-3.result) (opens (found c.new-2.result)) (λ k. ap (lookup (same_bytes k)) c.new-3.ensures.empty));
  busy_keys = λ k. subst (λ (o : Option Holding). IfSome o (λ h. h.live ≡ 0 → None ≡ Some k)) (sym (ap (lookup (same_bytes k)) c.new-3.ensures.empty)) tt;
  reserved = tt;
  bounded = record {
    fits = omega (arith, ap length c.new.ensures.items);
    most_records = omega (arith, c.log_records-log_records.ensures.value, c.log_records-log_records.ensures.most);
    within = omega arith;
    most_begins = omega (arith, c.begins-begins.ensures.value, c.begins-begins.ensures.most);
  };
  records_room = record { held = omega (arith, ap length c.new.ensures.items); spare = tt };
  bytes_room = tt;
}
