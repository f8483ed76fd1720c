use Rattle.std.proofs.Common.{rules}
use Rattle.btree_node.proofs.node.Node.blank.Goals as goal

pub returns-clause-kind : goal.returns-clause-kind
returns-clause-kind c = search rules
