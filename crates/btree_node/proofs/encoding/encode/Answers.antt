use Rattle.std.proofs.Common.{rules}
use Rattle.btree_node.proofs.encoding.encode.Goals as goal

pub returns : goal.returns
returns c = search rules
