use Rattle.std.proofs.Common.{◌≡◌, ◌-◌, ◌≤◌, take}
use Rattle.btree_node.specs.Lists.{Each, Below}
use Rattle.btree_node.specs.Reading.{count_at}
use Rattle.btree_node.specs.Spelling.{spelling, CanStand}
use Rattle.btree_node.specs.declared.node.Node.{Node}
use Rattle.btree_node.proofs.spelt.place_in.Given as goal

abbrev pub invariant-loop-at : goal.invariant-loop-at
invariant-loop-at l = record {
  within : l.at ≤ count_at l.page;
  below : (node : Node) → CanStand node l.fn.k → l.page ≡ spelling node l.fn.k → Each (λ e. Below e.0 l.key) (take l.at node.elements.items);
}

abbrev pub decreases-loop-at : goal.decreases-loop-at
decreases-loop-at l = l.count - l.at
