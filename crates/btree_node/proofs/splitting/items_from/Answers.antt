use Rattle.std.proofs.Common.{arith}
use Rattle.std.proofs.lemmas.Grind.{common_steps, elements}
use Rattle.btree_node.proofs.splitting.items_from.Goals as goal

pub returns : goal.returns
returns g c = grind (arith, common_steps)

pub unwrap-requires : goal.unwrap-requires
unwrap-requires g c = grind (arith, elements)
