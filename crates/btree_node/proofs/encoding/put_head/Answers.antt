use Rattle.std.proofs.Common.{arith}
use Rattle.std.proofs.lemmas.Grind.{common_steps}
use Rattle.btree_node.specs.Spelling.{head}
use Rattle.btree_node.proofs.encoding.put_head.Goals as goal

pub put_u16-requires : goal.put_u16-requires
put_u16-requires c = grind (arith, common_steps)

pub skip-requires : goal.skip-requires
skip-requires c = grind (arith, common_steps)

pub returns-clause-value : goal.returns-clause-value
unfolding head
returns-clause-value c = grind (arith, common_steps)

pub returns-clause-len : goal.returns-clause-len
returns-clause-len c = grind (arith, common_steps)
