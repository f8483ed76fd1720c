use Rattle.std.proofs.Common.{◌≡◌, ◌+◌, ◌*◌, ◌≤◌}
use Rattle.btree_load.proofs.TreeLemmas.{LevelsFrom}
use Rattle.btree_load.proofs.filling.page_total.Given as goal

abbrev pub decreases-loop-left : goal.decreases-loop-left
decreases-loop-left l = l.left

abbrev pub invariant-loop-left : goal.invariant-loop-left
invariant-loop-left l = record {
  width : l.width ≡ 2 * l.k + 1;
  levels : LevelsFrom l.k l.records l.left l.pages;
  most : l.pages + l.left ≤ 1 + l.records;
}
