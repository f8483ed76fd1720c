-- The class of trees, on whole trees: they know nothing of pages.
use Rattle.std.specs.Prelude.{◌≡◌, ℕ, zero, suc, ◌+◌, ◌*◌, ◌≤◌, Some, None, List, [], ◌∷◌, ◌++◌, length}
use Rattle.btree_node.specs.declared.node.Node.{Node}
use Rattle.btree_node.specs.declared.node.NodeKind.TheVariants.{Leaf, Inner}
use Rattle.btree_node.specs.Lists.{Element, Each}
use Rattle.page_store.specs.PageMap.{PageMap}
use Rattle.btree_insert.specs.declared.bounds.Bounds.{Bounds}
use Rattle.btree_insert.specs.declared.tree.Tree.{Tree}
use Rattle.btree_insert.specs.Bounds.{Over, Under, Between}
use Rattle.btree_insert.specs.PageTrees.{Spells, Apart}

-- a tree of a height: the empty tree, a leaf of elements, or elements and the trees below the sons
abbrev pub BTree : ℕ → Type 0
BTree zero = Unit {0}
BTree (suc zero) = List Element
BTree (suc (suc h)) = List Element × List (BTree (suc h))

-- the elements of trees with an element between any two
abbrev pub between_trees : {X : Type 0} → (X → List Element) → List Element → List X → List Element
between_trees elements els [] = []
between_trees elements [] (t ∷ ts) = elements t
between_trees elements (e ∷ els) (t ∷ ts) = elements t ++ e ∷ between_trees elements els ts

-- all elements from left to right: the pairs of the tree's map
abbrev pub in_order : (h : ℕ) → BTree h → List Element
in_order zero t = []
in_order (suc zero) t = t
in_order (suc (suc h)) t = between_trees (in_order (suc h)) t.0 t.1

-- each page has k to 2k keys, the topmost at least so many, and an inner page one son more than keys
abbrev pub Filled : ℕ → ℕ → (h : ℕ) → BTree h → Type 0
Filled k least zero t = Unit {0}
Filled k least (suc zero) t = (least ≤ length t) × (length t ≤ 2 * k)
Filled k least (suc (suc h)) t = (least ≤ length t.0) × (length t.0 ≤ 2 * k) × (length t.1 ≡ length t.0 + 1) × Each (Filled k k (suc h)) t.1

-- each of the trees is strictly between the elements on its two sides
abbrev pub Sides : {X : Type 0} → (Bounds → X → Type 0) → Bounds → List Element → List X → Type 0
Sides tree b els [] = ⊥
Sides tree b [] (t ∷ []) = tree b t
Sides tree b [] (t ∷ (u ∷ ts)) = ⊥
Sides tree b (e ∷ els) (t ∷ ts) =
    tree (record { low = b.low; high = Some e.0 }) t × Over b.low e.0 × Under b.high e.0 × Sides tree (record { low = Some e.0; high = b.high }) els ts

-- the keys of each page ascend, and all keys below a son lie strictly between the keys on its two sides
abbrev pub Ordered : Bounds → (h : ℕ) → BTree h → Type 0
Ordered b zero t = Unit {0}
Ordered b (suc zero) t = Between b t
Ordered b (suc (suc h)) t = Sides (λ c u. Ordered c (suc h) u) b t.0 t.1

-- the class of order k
pub record InClass (k h : ℕ) (t : BTree h) : Type 0 where
  pub filled : Filled k 1 h t
  pub ordered : Ordered (record { low = None; high = None }) h t

-- the trees of page numbers, with all their pages
abbrev pub AllStand : {X : Type 0} → (ℕ → X → List ℕ → Type 0) → List ℕ → List X → List ℕ → Type 0
AllStand stands [] [] us = us ≡ []
AllStand stands [] (t ∷ ts) us = ⊥
AllStand stands (s ∷ ss) [] us = ⊥
AllStand stands (s ∷ ss) (t ∷ ts) us = (here : List ℕ) × (rest : List ℕ) × stands s t here × AllStand stands ss ts rest × (us ≡ here ++ rest)

-- the tree of page p: the page spells a node with its elements, and its sons stand for the trees below
abbrev pub Stands : ℕ → PageMap → (h : ℕ) → ℕ → BTree h → List ℕ → Type 0
Stands k pages zero p t us = (p ≡ 0) × (us ≡ [])
Stands k pages (suc zero) p t us = (n : Node) × Spells k pages p n × (n.kind ≡ Leaf) × (t ≡ n.elements.items) × (us ≡ p ∷ [])
Stands k pages (suc (suc h)) p t us =
    (n : Node) × (below : List ℕ) × Spells k pages p n × (n.kind ≡ Inner) × (t.0 ≡ n.elements.items) × AllStand (λ s u vs. Stands k pages (suc h) s u vs) n.sons.items t.1 below × (us ≡ p ∷ below)

-- the pages stand for a tree of the class, in which no page is reached twice
pub record StandsFor (pages : PageMap) (tree : Tree) (t : BTree tree.height) (us : List ℕ) : Type 0 where
  pub in_class : InClass tree.order tree.height t
  pub stands : Stands tree.order pages tree.height tree.root t us
  pub apart : Apart us
  pub count : tree.count ≡ length (in_order tree.height t)
  pub used : tree.used ≡ length us
