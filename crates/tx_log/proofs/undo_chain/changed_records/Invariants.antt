use Rattle.std.proofs.Common.{◌≡◌, ◌++◌, ◌≤◌, length, reverse}
use Rattle.tx_log.specs.Log.{chain}
use Rattle.tx_log.specs.Written.{written_by}
use Rattle.tx_log.proofs.undo_chain.changed_records.Given as goal

abbrev pub invariant-loop-change : goal.invariant-loop-change
invariant-loop-change l = (l.at ≤ length l.log.items) × (l.written.items ++ written_by (chain (reverse l.log.items) l.at) ≡ written_by (chain (reverse l.log.items) l.fn.from))

abbrev pub decreases-loop-change : goal.decreases-loop-change
decreases-loop-change l = l.at
