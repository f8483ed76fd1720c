-- Trees by example, of order 1: the three tree pages of a file with the records x, y and z at the keys a, b and c; and pages that hold no tree.
use Rattle.std.specs.Prelude.{ℕ, List, [], ◌∷◌, Option, Some, None}
use Rattle.btree_node.specs.declared.node.Node.{Node}
use Rattle.btree_node.specs.Lists.{Element}
use Rattle.btree_node.specs.Spelling.{spelling}
use Rattle.btree_insert.specs.declared.tree.Tree.{Tree}
use Rattle.btree_insert.specs.Inserted.{leaf_of, root_of}

-- the records
abbrev pub ax : Element
ax = (97 ∷ [], 120 ∷ [])

abbrev pub by : Element
by = (98 ∷ [], 121 ∷ [])

abbrev pub cz : Element
cz = (99 ∷ [], 122 ∷ [])

abbrev pub dv : Element
dv = (100 ∷ [], 118 ∷ [])

abbrev pub ew : Element
ew = (101 ∷ [], 119 ∷ [])

-- a page with a node
abbrev pub page_of : Node → Option (List ℕ)
page_of n = Some (spelling n 1)

-- a tree of order 1
abbrev pub tree_of : ℕ → ℕ → ℕ → ℕ → Tree
tree_of root height count used = record { order = 1; root = root; height = height; count = count; used = used }

-- page 0 is the header; the leaves a and c stand below the root b, which is page 3
abbrev pub three_pages : List (Option (List ℕ))
three_pages = None ∷ page_of (leaf_of ax) ∷ page_of (leaf_of cz) ∷ page_of (root_of 1 by 2) ∷ []

-- the root d, page 5, has page 3 with the leaves a and c below it, and the leaf e: leaves at two depths
abbrev pub uneven_pages : List (Option (List ℕ))
uneven_pages = None ∷ page_of (leaf_of ax) ∷ page_of (leaf_of cz) ∷ page_of (root_of 1 by 2) ∷ page_of (leaf_of ew) ∷ page_of (root_of 3 dv 4) ∷ []

-- the leaf a stands on both sides of the root b
abbrev pub shared_pages : List (Option (List ℕ))
shared_pages = None ∷ page_of (leaf_of ax) ∷ page_of (leaf_of cz) ∷ page_of (root_of 1 by 1) ∷ []

-- the leaf on the right has the root's key once more
abbrev pub equal_pages : List (Option (List ℕ))
equal_pages = None ∷ page_of (leaf_of ax) ∷ page_of (leaf_of by) ∷ page_of (root_of 1 by 2) ∷ []
