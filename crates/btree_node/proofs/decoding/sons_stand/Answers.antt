use Rattle.std.proofs.Common.{rules}
use Rattle.btree_node.proofs.decoding.sons_stand.Goals as goal

pub returns : goal.returns
returns c = search rules
