use Rattle.std.proofs.Common.{arith}
use Rattle.std.proofs.lemmas.Grind.{common_steps}
use Rattle.btree_node.specs.Spelling.{sons_bytes}
use Rattle.btree_node.proofs.encoding.put_sons.Goals as goal

pub loop-son-preserved : goal.loop-son-preserved
unfolding sons_bytes
loop-son-preserved c = grind (arith, common_steps)

pub returns : goal.returns
returns c = grind (arith, common_steps)
