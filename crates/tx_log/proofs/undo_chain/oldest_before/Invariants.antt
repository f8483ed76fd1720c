use Rattle.std.proofs.Common.{◌≡◌, ◌≤◌, None, length, reverse}
use Rattle.tx_log.specs.Log.{chain}
use Rattle.tx_log.specs.Walks.{oldest_at}
use Rattle.tx_log.proofs.undo_chain.oldest_before.Given as goal

abbrev pub invariant-loop-change : goal.invariant-loop-change
invariant-loop-change l = (l.at ≤ length l.log.items) × (oldest_at l.key (chain (reverse l.log.items) l.at) l.oldest ≡ oldest_at l.key (chain (reverse l.log.items) l.fn.from) None)

abbrev pub decreases-loop-change : goal.decreases-loop-change
decreases-loop-change l = l.at
