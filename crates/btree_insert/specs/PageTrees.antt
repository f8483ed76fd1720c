-- The tree below a page number: its elements in order and the numbers of its pages.
use Rattle.std.specs.Prelude.{◌≡◌, ℕ, zero, suc, ◌≤◌, ◌⊎◌, List, [], ◌∷◌, ◌++◌, length, Some, ◌==◌, if◌then◌else◌}
use Rattle.btree_node.specs.declared.node.Node.{Node}
use Rattle.btree_node.specs.declared.node.NodeKind.{NodeKind}
use Rattle.btree_node.specs.declared.node.NodeKind.TheVariants.{Leaf, Inner}
use Rattle.btree_node.specs.Lists.{Element, Ascends}
use Rattle.btree_node.specs.declared.layout.Layout.{Layout}
use Rattle.btree_node.specs.Layout.{second_layout}
use Rattle.btree_node.specs.Spelling.{spelling_in, CanStandIn}
use Rattle.page_store.specs.PageMap.{PageMap}
use Rattle.btree_insert.specs.declared.tree.Tree.{Tree}

-- u is one of the numbers
abbrev pub IsIn : ℕ → List ℕ → Type 0
IsIn u [] = ⊥
IsIn u (v ∷ vs) = (u ≡ v) ⊎ IsIn u vs

-- no number comes twice
abbrev pub Apart : List ℕ → Type 0
Apart [] = Unit {0}
Apart (u ∷ us) = (IsIn u us → ⊥) × Apart us

-- page p spells the node, in a layout and of an order
pub record SpellsIn (layout : Layout) (k : ℕ) (pages : PageMap) (p : ℕ) (n : Node) : Type 0 where
  pub page : pages p ≡ Some (spelling_in layout n k)
  pub stands : CanStandIn layout n k

-- the same in the layout of the second file version
abbrev pub Spells : ℕ → PageMap → ℕ → Node → Type 0
Spells k pages = SpellsIn second_layout k pages

-- sons with the elements between them: all elements in order, and the page numbers of all sons. What a son stands for is said by «tree».
abbrev pub Fan : (ℕ → List Element → List ℕ → Type 0) → List ℕ → List Element → List Element → List ℕ → Type 0
Fan tree [] els es us = ⊥
Fan tree (s ∷ []) [] es us = tree s es us
Fan tree (s ∷ []) (e ∷ els) es us = ⊥
Fan tree (s ∷ (t ∷ ss)) [] es us = ⊥
Fan tree (s ∷ (t ∷ ss)) (e ∷ els) es us =
    (xs : List Element) × (ys : List Element) × (here : List ℕ) × (rest : List ℕ) × tree s xs here × Fan tree (t ∷ ss) els ys rest × (es ≡ xs ++ e ∷ ys) × (us ≡ here ++ rest)

-- which kind of page stands at a level, where level 1 is the lowest
abbrev pub kind_of_level : ℕ → NodeKind
kind_of_level level = if level == 1 then Leaf else Inner

-- what a node with so many levels below it stands for
abbrev pub Body : (ℕ → List Element → List ℕ → Type 0) → ℕ → Node → List Element → List ℕ → Type 0
Body tree zero n es us = (n.kind ≡ Leaf) × (es ≡ n.elements.items) × (us ≡ [])
Body tree (suc h) n es us = (n.kind ≡ Inner) × Fan tree n.sons.items n.elements.items es us

-- the tree of a height below page p, where p has at least «least» keys and each page below it at least «fill». What a page spells is said by «spells».
abbrev pub TreeOf : (ℕ → Node → Type 0) → ℕ → ℕ → ℕ → ℕ → List Element → List ℕ → Type 0
TreeOf spells fill least zero p es us = ⊥
TreeOf spells fill least (suc h) p es us =
    (n : Node) × (below : List ℕ) × spells p n × (least ≤ length n.elements.items) × Body (TreeOf spells fill fill h) h n es below × (us ≡ p ∷ below)

-- which tree: its order, how many keys its first page has at least, its height, and that page
pub record TreeBelow : Type 0 where
  pub order : ℕ
  pub least : ℕ
  pub height : ℕ
  pub page : ℕ

abbrev pub tree_below : ℕ → ℕ → ℕ → ℕ → TreeBelow
tree_below order least height page = record { order = order; least = least; height = height; page = page }

-- the tree of a root: none is the empty tree
abbrev pub RootOf : (ℕ → Node → Type 0) → ℕ → ℕ → ℕ → List Element → List ℕ → Type 0
RootOf spells fill zero root es us = (root ≡ 0) × (es ≡ []) × (us ≡ [])
RootOf spells fill (suc h) root es us = TreeOf spells fill 1 (suc h) root es us

-- pages that spell nodes hold the tree: its elements in order, its pages, and what it says of itself
pub record HoldsOf (spells : ℕ → Node → Type 0) (t : Tree) (es : List Element) (us : List ℕ) : Type 0 where
  pub tree : RootOf spells t.order t.height t.root es us
  pub ascends : Ascends es
  pub apart : Apart us
  pub count : t.count ≡ length es
  pub used : t.used ≡ length us

-- the three in a layout, of order k
abbrev pub TreeIn : Layout → ℕ → PageMap → ℕ → ℕ → ℕ → List Element → List ℕ → Type 0
TreeIn layout k pages = TreeOf (SpellsIn layout k pages) k

abbrev pub RootIn : Layout → ℕ → PageMap → ℕ → ℕ → List Element → List ℕ → Type 0
RootIn layout k pages = RootOf (SpellsIn layout k pages) k

abbrev pub HoldsIn : Layout → PageMap → Tree → List Element → List ℕ → Type 0
HoldsIn layout pages t = HoldsOf (SpellsIn layout t.order pages) t

-- the three in the layout of the second file version
abbrev pub TreeAt : ℕ → PageMap → ℕ → ℕ → ℕ → List Element → List ℕ → Type 0
TreeAt k pages = TreeOf (Spells k pages) k

abbrev pub RootAt : ℕ → PageMap → ℕ → ℕ → List Element → List ℕ → Type 0
RootAt k pages = RootOf (Spells k pages) k

abbrev pub Holds : PageMap → Tree → List Element → List ℕ → Type 0
Holds pages t = HoldsOf (Spells t.order pages) t
