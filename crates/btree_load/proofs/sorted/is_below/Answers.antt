use Rattle.std.proofs.Common.{rules}
use Rattle.btree_node.specs.Lists.{Below}
use Rattle.btree_load.proofs.sorted.is_below.Goals as goal

pub returns : goal.returns
unfolding Below
returns c = search rules
