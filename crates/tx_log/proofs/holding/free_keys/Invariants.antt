use Rattle.std.proofs.Common.{◌≡◌, ℕ, ◌≤◌, List, None, cond, length, reverse}
use Rattle.std.specs.List.{list_any}
use Rattle.tx_log.specs.Holdings.{holdings_in}
use Rattle.tx_log.specs.Log.{chain}
use Rattle.tx_log.specs.Walks.{is_at}
use Rattle.tx_log.proofs.holding.free_keys.Given as goal

abbrev pub invariant-loop-link : goal.invariant-loop-link
invariant-loop-link l = (l.at ≤ length l.log.items) × ((q : List ℕ) → cond (list_any (is_at q) (chain (reverse l.log.items) l.at)) None (holdings_in l.holdings q) ≡ cond (list_any (is_at q) (chain (reverse l.log.items) l.fn.from)) None (holdings_in l.fn.holdings q))

abbrev pub decreases-loop-link : goal.decreases-loop-link
decreases-loop-link l = l.at
