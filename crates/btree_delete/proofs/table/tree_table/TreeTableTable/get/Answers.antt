use Rattle.std.proofs.Common.{ℕ, ◌≡◌, List, Option, Result, IfOk, sym, subst}
use Rattle.std.specs.FinMap as maps
use Rattle.rec_types.specs.declared.table.TableFault.{TableFault}
use Rattle.btree_delete.specs.TableView.{table_contents, table_of}
use Rattle.btree_delete.proofs.TableViewLemmas.{got}
use Rattle.btree_delete.proofs.table.tree_table.TreeTableTable.get.Goals as goal

pub returns-clause-value : goal.returns-clause-value
returns-clause-value g c = λ steady.
    let here = table_of c.self.inside.pages c.self.inside.tree c.self.inside.limit c.self.inside.faults c.self.inside.calls in
    subst (λ (r : Result (Option (List ℕ)) TableFault). IfOk r (λ found. found ≡ maps.get (table_contents c.args.self.now) c.args.key.now)) (sym c.told-found.ensures) (got here c.args.self.now c.args.key.now c.look_up.result c.self.view_is c.self.invariant c.look_up.ensures.found steady)
