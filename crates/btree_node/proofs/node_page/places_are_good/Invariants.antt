use Rattle.btree_node.proofs.NodePageLemmas.{Tested}
use Rattle.btree_node.proofs.node_page.places_are_good.Given as goal

abbrev pub invariant-loop-i : goal.invariant-loop-i
invariant-loop-i l = Tested l.page l.last l.i
