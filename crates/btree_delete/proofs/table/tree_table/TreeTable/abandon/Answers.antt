use Rattle.std.proofs.Common.{rules}
use Rattle.btree_delete.proofs.table.tree_table.TreeTable.abandon.Goals as goal

pub returns : goal.returns
returns g c = record {
  pages = search rules;
  tail = search rules;
  steady = search rules;
  opening = search rules;
  reads = search rules;
  shapes = search rules;
  writes = search rules;
  failures = search rules;
  journal = search rules;
  guard = search rules;
}
