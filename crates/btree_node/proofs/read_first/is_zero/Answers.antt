use Rattle.std.proofs.Common.{arith}
use Rattle.btree_node.proofs.QuickPassLemmas.{is_zero_more}
use Rattle.btree_node.proofs.read_first.is_zero.Goals as goal

pub loop-byte-preserved : goal.loop-byte-preserved
loop-byte-preserved c = is_zero_more c.args.bytes.now c.loop-byte.byte-index c.loop-byte.any (omega arith) c.loop-byte.invariant
