use Rattle.std.proofs.Common.{arith}
use Rattle.btree_delete.specs.TableView.{table_of}
use Rattle.btree_delete.proofs.TableViewLemmas.{count_seen}
use Rattle.btree_delete.proofs.table.tree_table.TreeTableTable.count.Goals as goal

pub returns-clause-value : goal.returns-clause-value
returns-clause-value g c = λ steady.
    let here = table_of c.self.inside.pages c.self.inside.tree c.self.inside.limit c.self.inside.faults c.self.inside.calls in
    omega (arith, count_seen here c.args.self.now c.self.view_is c.self.invariant steady)
