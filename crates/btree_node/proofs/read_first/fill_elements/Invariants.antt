use Rattle.std.proofs.Common.{◌≡◌, ℕ, ◌<◌, length}
use Rattle.btree_node.specs.Layout.{second_layout}
use Rattle.btree_node.specs.Lists.{Ascends}
use Rattle.btree_node.specs.Reading.{place_at, elements_at, IsGoodPlace}
use Rattle.btree_node.proofs.read_first.fill_elements.Given as goal

abbrev pub invariant-loop-i : goal.invariant-loop-i
invariant-loop-i l = record {
  items : l.elements.items ≡ elements_at second_layout l.page l.i;
  len : length l.elements.items ≡ l.i;
  ascends : Ascends l.elements.items;
  good : (j : ℕ) → j < l.i → IsGoodPlace (place_at second_layout l.page j);
}
