use Rattle.std.proofs.Common.{◌-◌, ◌≤◌, length, take, drop}
use Rattle.btree_node.specs.Lists.{Each, Below, Ascends}
use Rattle.btree_node.proofs.searching.place_among.Given as goal

abbrev pub invariant-loop-low : goal.invariant-loop-low
invariant-loop-low l = record {
  within : l.high ≤ length l.elements;
  order : l.low ≤ l.high;
  below : Ascends l.elements → Each (λ e. Below e.0 l.key) (take l.low l.elements);
  above : Ascends l.elements → Each (λ e. Below l.key e.0) (drop l.high l.elements);
}

abbrev pub decreases-loop-low : goal.decreases-loop-low
decreases-loop-low l = l.high - l.low
