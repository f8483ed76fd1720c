-- What a walk knows of the trees below a page.
use Rattle.std.specs.Prelude.{ℕ, ◌-◌, List, Option, Some, None}
use Rattle.btree_node.specs.declared.node.Node.{Node}
use Rattle.btree_node.specs.Lists.{Element}
use Rattle.btree_insert.specs.declared.bounds.Bounds.{Bounds}
use Rattle.btree_insert.specs.Bounds.{son_bounds}
use Rattle.btree_delete.specs.declared.deletion.subtree.Subtree.{Subtree}
use Rattle.btree_delete.specs.Treatment.{son_number}

-- the tree below son i of the node at the head of a tree
abbrev pub son_tree : Subtree → Node → ℕ → Subtree
son_tree t n i = record { order = t.order; height = t.height - 1; page = son_number n i; bounds = son_bounds n.elements.items i t.bounds }

-- the bounds of what is left behind an element
abbrev pub behind_element : Element → Bounds → Bounds
behind_element e bounds = record { low = Some e.0; high = bounds.high }

-- the bounds of what is left where a key was taken, or where the first element was
abbrev pub left_bounds : Option (List ℕ) → Element → Bounds → Bounds
left_bounds None e bounds = behind_element e bounds
left_bounds (Some key) e bounds = bounds

-- the page at the head of a tree: the tree's order, how many keys the page has at least, how many levels stand below it, and its number
pub record HeadPage : Type 0 where
  pub order : ℕ
  pub least : ℕ
  pub levels : ℕ
  pub page : ℕ

abbrev pub head_page : ℕ → ℕ → ℕ → ℕ → HeadPage
head_page order least levels page = record { order = order; least = least; levels = levels; page = page }

-- the page at the head of such a tree as a walk goes down
abbrev pub head_of : Subtree → ℕ → HeadPage
head_of tree least = head_page tree.order least (tree.height - 1) tree.page
