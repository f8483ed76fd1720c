use Rattle.std.proofs.Common.{rules}
use Rattle.btree_delete.proofs.table.tree_table.TreeTable.free_count.Goals as goal

pub returns : goal.returns
returns g c = search rules
