use Rattle.std.proofs.Common.{rules}
use Rattle.btree_delete.proofs.table.tree_table.check_empty.Goals as goal

pub returns-then-shape-ne0-clause-failures : goal.returns-then-shape-ne0-clause-failures
returns-then-shape-ne0-clause-failures g c = search rules
