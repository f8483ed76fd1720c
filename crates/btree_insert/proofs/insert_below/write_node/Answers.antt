use Rattle.std.proofs.Common.{rules}
use Rattle.btree_insert.proofs.insert_below.write_node.Goals as goal

pub returns-clause-writes : goal.returns-clause-writes
returns-clause-writes c = search rules
