-- Nodes by example: keys of one letter, each with the record v.
use Rattle.std.specs.Prelude.{ℕ, List, [], ◌∷◌, map}
use Rattle.btree_node.specs.declared.node.Node.{Node}
use Rattle.btree_node.specs.declared.node.NodeKind.TheVariants.{Leaf, Inner}
use Rattle.btree_node.specs.Joined.{joined}
use Rattle.btree_node.specs.Lists.{Element}

abbrev pub element : ℕ → Element
element letter = (letter ∷ [], 118 ∷ [])

abbrev pub leaf : List ℕ → Node
leaf letters = record { kind = Leaf; elements = record { items = map element letters }; sons = record { items = [] } }

abbrev pub inner : List ℕ → List ℕ → Node
inner letters sons = record { kind = Inner; elements = record { items = map element letters }; sons = record { items = sons } }

abbrev pub b : ℕ
b = 98

abbrev pub c : ℕ
c = 99

abbrev pub d : ℕ
d = 100

abbrev pub e : ℕ
e = 101

abbrev pub f : ℕ
f = 102

abbrev pub g : ℕ
g = 103

-- the leaf b, then c, then the leaf d e f g
abbrev pub leaves : Node
leaves = joined (leaf (b ∷ [])) (element c) (leaf (d ∷ e ∷ f ∷ g ∷ []))

-- an inner node that has lost its key, then b, then an inner node c d
abbrev pub inner_nodes : Node
inner_nodes = joined (inner [] (1 ∷ [])) (element b) (inner (c ∷ d ∷ []) (2 ∷ 3 ∷ 4 ∷ []))
