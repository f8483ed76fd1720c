-- Two nodes and the element between them, as one node of any length.
use Rattle.std.specs.Prelude.{◌≡◌, ℕ, ◌+◌, ◌/◌, ◌∷◌, ◌++◌, length}
use Rattle.btree_node.specs.declared.node.Node.{Node}
use Rattle.btree_node.specs.Lists.{Element, Ascends}
use Rattle.btree_node.specs.Spelling.{SonsFit}

-- the keys of the left, the one between them, the keys of the right; the sons of the left, then those of the right
abbrev pub joined : Node → Element → Node → Node
joined left middle right = record {
  kind = left.kind;
  elements = record { items = left.elements.items ++ middle ∷ right.elements.items };
  sons = record { items = left.sons.items ++ right.sons.items };
}

-- how many keys the two have, without the one between them
abbrev pub keys_of_both : Node → Node → ℕ
keys_of_both left right = length left.elements.items + length right.elements.items

-- how many keys the left of two distributed nodes has
abbrev pub half_of_both : Node → Node → ℕ
half_of_both left right = keys_of_both left right / 2

-- two sons of one father that stand side by side, and the father's element between them
pub record AreBrothers (left : Node) (middle : Element) (right : Node) : Type 0 where
  pub kind : left.kind ≡ right.kind
  pub ascends : Ascends (joined left middle right).elements.items
  pub left_sons : SonsFit left.kind (length left.elements.items) left.sons.items
  pub right_sons : SonsFit right.kind (length right.elements.items) right.sons.items
