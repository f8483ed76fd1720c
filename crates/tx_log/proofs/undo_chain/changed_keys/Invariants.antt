use Rattle.std.proofs.Common.{◌≡◌, ◌++◌, ◌≤◌, length, reverse, map}
use Rattle.tx_log.specs.Log.{chain, key_of_record}
use Rattle.tx_log.proofs.undo_chain.changed_keys.Given as goal

abbrev pub invariant-loop-link : goal.invariant-loop-link
invariant-loop-link l = (l.at ≤ length l.log.items) × (l.keys.items ++ map key_of_record (chain (reverse l.log.items) l.at) ≡ map key_of_record (chain (reverse l.log.items) l.fn.from))

abbrev pub decreases-loop-link : goal.decreases-loop-link
decreases-loop-link l = l.at
