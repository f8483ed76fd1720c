use Rattle.std.proofs.Common.{◌≡◌, take}
use Rattle.btree_node.specs.Lists.{Each}
use Rattle.btree_node.specs.Spelling.{IsElement}
use Rattle.btree_load.proofs.rows.page_of.Given as goal

abbrev pub invariant-loop-element : goal.invariant-loop-element
invariant-loop-element l = record {
  same : l.page.items ≡ take l.element-index l.elements;
  fit : Each IsElement l.page.items;
}
