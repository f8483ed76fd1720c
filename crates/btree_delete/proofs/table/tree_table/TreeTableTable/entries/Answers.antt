use Rattle.std.proofs.Common.{◌≡◌, IfOk, sym, subst}
use Rattle.std.specs.FinMap as maps
use Rattle.btree_delete.specs.TableView.{table_contents, table_of}
use Rattle.btree_delete.proofs.TableViewLemmas.{listed}
use Rattle.btree_delete.proofs.table.tree_table.TreeTableTable.entries.Goals as goal

pub returns-clause-value : goal.returns-clause-value
returns-clause-value g c = λ steady.
    let here = table_of c.self.inside.pages c.self.inside.tree c.self.inside.limit c.self.inside.faults c.self.inside.calls in
    subst (λ r. IfOk r (λ records. records.items ≡ maps.entries (table_contents c.args.self.now))) (sym c.told-records.ensures) (listed _ (λ records. records.items) here c.args.self.now c.walk.result c.self.view_is c.self.invariant c.walk.ensures.walked steady)
