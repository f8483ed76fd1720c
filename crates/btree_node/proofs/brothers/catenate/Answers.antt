use Rattle.std.proofs.Common.{arith}
use Rattle.std.proofs.lemmas.Grind.{common_steps}
use Rattle.btree_node.proofs.brothers.catenate.Goals as goal

pub returns-clause-joined : goal.returns-clause-joined
returns-clause-joined c = grind (arith, common_steps)

pub returns-clause-stands : goal.returns-clause-stands
returns-clause-stands c = grind (arith, common_steps)
