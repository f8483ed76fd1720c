use Rattle.std.proofs.Common.{arith}
use Rattle.std.proofs.lemmas.Grind.{common_steps, elements}
use Rattle.btree_node.proofs.DistributeLemmas.{filled, left_over}
use Rattle.btree_node.proofs.brothers.level.Goals as goal

pub unwrap-requires : goal.unwrap-requires
unwrap-requires g c = grind (arith, common_steps)

pub returns-then-len-count-clause-left : goal.returns-then-len-count-clause-left
returns-then-len-count-clause-left g c = grind (arith, common_steps)

pub returns-then-len-count-clause-right : goal.returns-then-len-count-clause-right
returns-then-len-count-clause-right g c = grind (arith, common_steps)

pub slice_bounds-try_extend_from_slice-end : goal.slice_bounds-try_extend_from_slice-end
slice_bounds-try_extend_from_slice-end g c = grind (arith, elements)

pub unwrap-requires-else-len-count : goal.unwrap-requires-else-len-count
unwrap-requires-else-len-count g c = grind (arith, elements)

pub returns-else-len-count-clause-left : goal.returns-else-len-count-clause-left
returns-else-len-count-clause-left g c = grind (arith, elements, filled, left_over)

pub returns-else-len-count-clause-right : goal.returns-else-len-count-clause-right
returns-else-len-count-clause-right g c = grind (arith, elements, filled, left_over)
