-- A node cut in two around one of its elements.
use Rattle.std.specs.Prelude.{◌≡◌, ℕ, suc, ◌+◌, List, [], length, take, drop}
use Rattle.btree_node.specs.declared.node.Node.{Node}
use Rattle.btree_node.specs.declared.node.NodeKind.{NodeKind}
use Rattle.btree_node.specs.declared.node.NodeKind.TheVariants.{Leaf, Inner}

-- a leaf has no sons, an inner node one more than keys
abbrev pub SonsCount : NodeKind → ℕ → List ℕ → Type 0
SonsCount Leaf count sons = sons ≡ []
SonsCount Inner count sons = length sons ≡ count + 1

-- what stands before element number cut, with the sons on both sides of each key
abbrev pub left_of : ℕ → Node → Node
left_of cut n = record {
  kind = n.kind;
  elements = record { items = take cut n.elements.items };
  sons = record { items = take (suc cut) n.sons.items };
}

-- what stands behind it
abbrev pub right_of : ℕ → Node → Node
right_of cut n = record {
  kind = n.kind;
  elements = record { items = drop (suc cut) n.elements.items };
  sons = record { items = drop (suc cut) n.sons.items };
}
