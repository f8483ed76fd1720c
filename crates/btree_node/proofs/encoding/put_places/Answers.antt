use Rattle.std.proofs.Common.{arith}
use Rattle.std.proofs.lemmas.Grind.{elements, common_steps}
use Rattle.btree_node.proofs.encoding.put_places.Goals as goal

pub put_place-requires-clause-fits : goal.put_place-requires-clause-fits
put_place-requires-clause-fits c = grind (arith, elements)

pub loop-element-preserved : goal.loop-element-preserved
loop-element-preserved c = grind (arith, common_steps)

pub returns-clause-value : goal.returns-clause-value
returns-clause-value c = grind (arith, common_steps)
