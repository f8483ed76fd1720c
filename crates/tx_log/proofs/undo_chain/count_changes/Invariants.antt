use Rattle.std.proofs.Common.{◌≡◌, ◌+◌, ◌≤◌, length, reverse}
use Rattle.std.specs.List.{filter}
use Rattle.tx_log.specs.Log.{chain}
use Rattle.tx_log.specs.Walks.{is_after}
use Rattle.tx_log.proofs.undo_chain.count_changes.Given as goal

abbrev pub invariant-loop-at : goal.invariant-loop-at
invariant-loop-at l = (l.at ≤ length l.log.items) × (l.count + l.at ≤ l.fn.from) × (l.count + length (filter (is_after l.to) (chain (reverse l.log.items) l.at)) ≡ length (filter (is_after l.to) (chain (reverse l.log.items) l.fn.from)))

abbrev pub decreases-loop-at : goal.decreases-loop-at
decreases-loop-at l = l.at
