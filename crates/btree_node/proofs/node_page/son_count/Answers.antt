use Rattle.std.proofs.Common.{◌≡◌, refl, sym, subst}
use Rattle.btree_node.specs.Layout.{second_layout}
use Rattle.btree_node.specs.Reading.{sons_at, sons_of_kind}
use Rattle.btree_node.proofs.node_page.son_count.Goals as goal

pub returns-in-Leaf-clause-sons : goal.returns-in-Leaf-clause-sons
unfolding sons_at
returns-in-Leaf-clause-sons c = λ k page. subst (λ kind. sons_of_kind kind second_layout k page c.args.count ≡ sons_at second_layout k page 0) (sym c.in-Leaf.is) refl
