use Rattle.std.proofs.Common.{rules}
use Rattle.btree_delete.proofs.deletion.delete_below.settle.Goals as goal

pub write_node-requires-clause-stands : goal.write_node-requires-clause-stands
write_node-requires-clause-stands c = search rules

pub returns-clause-settles : goal.returns-clause-settles
returns-clause-settles c = search rules
