use Rattle.std.proofs.Common.{ℕ, ◌<◌, get_or}
use Rattle.std.specs.Prelude.{IsSome}
use Rattle.std.specs.FinMap.{get}
use Rattle.btree_node.specs.Lists.{Element}
use Rattle.page_rescue.specs.Rescue.{GrowsBy, IsAmong}
use Rattle.page_rescue.proofs.taking.take_all.Given as goal

-- the elements so far
abbrev pub invariant-loop-element : goal.invariant-loop-element
invariant-loop-element l = record {
  grows : GrowsBy (IsAmong l.elements) l.fn.table.contents l.table.contents;
  has : (i : ℕ) → i < l.element-index → (d : Element) → IsSome (get l.table.contents (get_or l.elements i d).0);
}
