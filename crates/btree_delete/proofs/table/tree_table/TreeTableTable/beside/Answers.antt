use Rattle.std.proofs.Common.{◌≡◌, Option, Result, IfOk, sym, subst}
use Rattle.btree_node.specs.Lists.{Element}
use Rattle.rec_types.specs.Ordered.{beside}
use Rattle.rec_types.specs.declared.table.TableFault.{TableFault}
use Rattle.btree_delete.specs.TableView.{table_contents, table_of}
use Rattle.btree_delete.proofs.TableViewLemmas.{beside_told}
use Rattle.btree_delete.proofs.table.tree_table.TreeTableTable.beside.Goals as goal

pub returns-clause-value : goal.returns-clause-value
returns-clause-value g c = λ steady.
    let here = table_of c.self.inside.pages c.self.inside.tree c.self.inside.limit c.self.inside.faults c.self.inside.calls in
    subst (λ (r : Result (Option Element) TableFault). IfOk r (λ found. found ≡ beside c.args.side (table_contents c.args.self.now) c.args.gap.now)) (sym c.told-found.ensures)
    (beside_told c.args.side c.args.gap.now here c.args.self.now c.nearest.result c.self.view_is c.self.invariant c.nearest.ensures.exact steady)
