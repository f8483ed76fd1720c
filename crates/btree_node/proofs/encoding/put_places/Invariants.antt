use Rattle.std.proofs.Common.{◌≡◌, ◌+◌, ◌*◌, ◌++◌, length, take}
use Rattle.std.specs.List.{flat_map}
use Rattle.btree_node.specs.Layout.{place_width}
use Rattle.btree_node.specs.Spelling.{place}
use Rattle.btree_node.proofs.encoding.put_places.Given as goal

abbrev pub invariant-loop-element : goal.invariant-loop-element
invariant-loop-element l = record {
  items : l.page ≡ l.fn.page ++ flat_map (place l.layout) (take l.element-index l.elements);
  len : length l.page ≡ length l.fn.page + place_width l.layout * l.element-index;
}
