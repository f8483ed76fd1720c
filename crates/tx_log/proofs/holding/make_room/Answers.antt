use Rattle.std.proofs.Common.{ℕ, List, Bool, sym, subst}
use Rattle.tx_log.proofs.HoldingLemmas.{held_busy, held_idle, held_equal, either_way}
use Rattle.tx_log.specs.Holdings.{holdings_in, IsHeld}
use Rattle.tx_log.specs.declared.log_record.LogRecord.{LogRecord}
use Rattle.tx_log.proofs.holding.make_room.Goals as goal
use Rattle.tx_log.proofs.holding.make_room.Goals.{After-add_idle, in-Some+then-ne, in-Some+else-ne, in_default}

-- without the key that was left over
emptied : (c : After-add_idle) (rs : List LogRecord) (is_open : ℕ → Bool) → IsHeld rs is_open (holdings_in c.args.holdings.now) → IsHeld rs is_open (holdings_in c.match-over.holdings)
emptied c rs is_open is =
    elim c.match-over.branch [
      | in-Some+then-ne w ↦ subst (λ m. IsHeld rs is_open (holdings_in m)) (sym w.holdings-is) (held_busy rs is_open _ _ _ is w.drop_idle.ensures)
      | in-Some+else-ne w ↦ subst (λ m. IsHeld rs is_open (holdings_in m)) (sym w.holdings-is) is
      | in_default w ↦ subst (λ m. IsHeld rs is_open (holdings_in m)) (sym w.holdings-is) is
    ]

pub returns-clause-kept : goal.returns-clause-kept
returns-clause-kept c = λ rs is_open is.
    either_way c.add_idle.result c.add_idle.ensures.ok c.add_idle.ensures.err
    (λ places. held_idle rs is_open _ _ _ (emptied c rs is_open is) places)
    (λ same. held_equal rs is_open _ _ (emptied c rs is_open is) same)
