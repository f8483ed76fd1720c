use Rattle.std.proofs.Common.{ℕ, ◌≤◌}
use Rattle.btree_node.specs.Layout.{IsVersion}
use Rattle.btree_node.specs.declared.node.Node.{Node}
use Rattle.page_looks.specs.Spelt.{PageSpellsIn}
use Rattle.page_looks.proofs.spelt.is_whole.Given as goal

-- the page spells no node in a tree of any order so far
abbrev pub invariant-loop-below : goal.invariant-loop-below
invariant-loop-below l = (order : ℕ) → 1 ≤ order → order ≤ l.below → (version : ℕ) → IsVersion version → (other : Node) → PageSpellsIn version order l.page other → ⊥
