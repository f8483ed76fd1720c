use Rattle.std.proofs.Common.{arith}
use Rattle.std.proofs.lemmas.Grind.{common_steps}
use Rattle.btree_node.specs.Spelling.{place}
use Rattle.btree_node.proofs.encoding.put_place.Goals as goal

pub returns-clause-value : goal.returns-clause-value
unfolding place
returns-clause-value c = grind (arith, common_steps)
