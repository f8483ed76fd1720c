use Rattle.std.proofs.Common.{take}
use Rattle.btree_node.specs.Lists.{Ascends}
use Rattle.btree_load.proofs.sorted.is_sorted.Given as goal

abbrev pub invariant-loop-i : goal.invariant-loop-i
invariant-loop-i l = Ascends (take l.i l.records)
