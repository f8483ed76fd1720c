use Rattle.std.proofs.Common.{rules, arith}
use Rattle.std.proofs.lemmas.Grind.{elements}
use Rattle.btree_node.proofs.splitting.split.Goals as goal

pub returns-clause-right : goal.returns-clause-right
returns-clause-right c = search rules

pub returns-clause-middle : goal.returns-clause-middle
returns-clause-middle c = grind (arith, elements)
