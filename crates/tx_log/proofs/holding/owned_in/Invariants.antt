use Rattle.std.proofs.Common.{◌≡◌, ◌++◌}
use Rattle.tx_log.specs.Holdings.{owned_in}
use Rattle.tx_log.proofs.holding.owned_in.Given as goal

-- the keys so far, and those of the entries that are left
abbrev pub invariant-loop-key : goal.invariant-loop-key
invariant-loop-key l = l.keys.items ++ owned_in l.tx.0 l.key-iterator ≡ owned_in l.tx.0 l.holdings.entries
