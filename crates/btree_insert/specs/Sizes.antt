-- How large a tree may be.
use Rattle.std.specs.Prelude.{◌≡◌, ℕ, ◌+◌, ◌<◌, ◌≤◌}
use Rattle.btree_node.specs.Layout.{IsOrder}
use Rattle.btree_insert.specs.declared.tree.Tree.{Tree}

-- the most levels of a tree
abbrev pub greatest_height : ℕ
greatest_height = 19

-- the most keys of a tree, and the most pages
abbrev pub greatest_size : ℕ
greatest_size = 1000000

-- what a tree says of itself is within the limits
pub record IsTree (tree : Tree) : Type 0 where
  pub order : IsOrder tree.order
  pub height : tree.height ≤ greatest_height
  pub count : tree.count ≤ greatest_size
  pub used : tree.used ≤ greatest_size

-- the same of a tree that has a root
pub record IsPlanted (tree : Tree) : Type 0 where
  pub sizes : IsTree tree
  pub height : 0 < tree.height

-- the tree that became of a tree when so many pages were added
pub record IsNext (tree : Tree) (taken : ℕ) (next : Tree) : Type 0 where
  pub order : next.order ≡ tree.order
  pub used : next.used ≡ tree.used + taken
