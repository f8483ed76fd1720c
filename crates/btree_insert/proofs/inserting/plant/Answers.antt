use Rattle.std.proofs.Common.{◌≡◌, [], ◌∷◌, ◌++◌, ap, ◌∙◌, subst, arith}
use Rattle.page_store.specs.FreeNumbers.{candidate}
use Rattle.page_store.specs.PageMap.{at}
use Rattle.btree_node.specs.declared.node.Node.{Node}
use Rattle.btree_node.specs.Spelling.{spelling}
use Rattle.btree_insert.specs.declared.tree.Tree.{Tree}
use Rattle.btree_insert.proofs.InsertionLemmas.{plant_inserted, leaf_stands}
use Rattle.btree_insert.proofs.VisitedLemmas.{candidates_free}
use Rattle.btree_insert.proofs.inserting.plant.Goals as goal

pub returns-clause-grew : goal.returns-clause-grew
returns-clause-grew g c = λ es us holds.
    let taken_is : c.add_node.new.edit.taken ≡ 1 = omega (arith, c.in_ok-root.ensures.taken, c.requires.grow.new_edit.none_taken) in
    let n_is = c.in_ok-root.ensures.number ∙ ap (candidate c.args.pages.now.pages) c.requires.grow.new_edit.none_taken in
    let ws_is = subst (λ (n : Node). c.add_node.new.edit.writes.items ≡ c.args.edit.now.writes.items ++ (c.in_ok-root.root, spelling n c.args.tree.now.order) ∷ []) c.leaf_node.ensures c.in_ok-root.ensures.writes in
    plant_inserted (at c.args.pages.now.pages) c.args.edit.now.writes.items c.add_node.new.edit.writes.items (candidate c.args.pages.now.pages) c.in_ok-root.root c.add_node.new.edit.taken c.args.tree.now c.grown_tree.result es us c.args.element.0 c.args.element.1
    c.requires.height taken_is holds c.requires.grow.new_edit.unwritten n_is (candidates_free c.args.pages.now.pages) (leaf_stands c.args.tree.now.order c.args.element c.requires.grow.tree_is.0.order.0 c.requires.grow.fits) ws_is
    (ap (λ (t : Tree). t.order) c.grown_tree.ensures) (ap (λ (t : Tree). t.root) c.grown_tree.ensures) (ap (λ (t : Tree). t.height) c.grown_tree.ensures) (ap (λ (t : Tree). t.count) c.grown_tree.ensures) (ap (λ (t : Tree). t.used) c.grown_tree.ensures)
