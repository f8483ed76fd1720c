use Rattle.std.proofs.Common.{rules}
use Rattle.btree_delete.proofs.table.tree_table.TreeTable.height.Goals as goal

pub returns-clause-value : goal.returns-clause-value
returns-clause-value g c = search rules
