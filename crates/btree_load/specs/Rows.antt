-- Rows of pages: the pages of one level of a tree, from left to right.
use Rattle.std.specs.Prelude.{◌≡◌, ℕ, ◌+◌, ◌*◌, ◌<◌, ◌≤◌, List, length, drop}
use Rattle.btree_node.specs.declared.node.Node.{Node}
use Rattle.btree_node.specs.declared.node.NodeKind.{NodeKind}
use Rattle.btree_node.specs.Lists.{Element, Ascends}
use Rattle.btree_node.specs.Spelling.{SonsFit}
use Rattle.btree_insert.specs.PageTrees.{Fan, Body, TreeAt}
use Rattle.btree_delete.specs.CleanFile.{in_file}
use Rattle.page_store.specs.declared.store_state.StoreState.{Ghosts}
use Rattle.btree_load.specs.Filling.{HasPages}

-- elements with the sons around them as one node, however many they are
abbrev pub wide : NodeKind → List Element → List ℕ → Node
wide kind els sons = record { kind = kind; elements = record { items = els }; sons = record { items = sons } }

-- what stands in a node from an element on
abbrev pub from : ℕ → Node → Node
from at n = record {
  kind = n.kind;
  elements = record { items = drop at n.elements.items };
  sons = record { items = drop at n.sons.items };
}

-- a node whose elements ascend, and which has the sons of its kind; it may be too large for a page
pub record IsWide (n : Node) : Type 0 where
  pub ascends : Ascends n.elements.items
  pub sons : SonsFit n.kind (length n.elements.items) n.sons.items

-- what a node with so many levels below it stands for, in the pages of a file of order k
abbrev pub NodeStandsFor : ℕ → List (List ℕ) → ℕ → Node → List Element → List ℕ → Type 0
NodeStandsFor k stored h n es us = Body (TreeAt k (in_file stored) k h) h n es us

-- pages with the elements between them stand for trees of so many levels, each first page of at least so many elements
pub record IsRow (k : ℕ) (stored : List (List ℕ)) (least h : ℕ) (row : Node) (es : List Element) : Type 0 where
  pub us : List ℕ
  pub fan : Fan (TreeAt k (in_file stored) least h) row.sons.items row.elements.items es us

-- No fewer pages have room for so many elements, where a page of order k holds 2k and one stands between any two.
pub record AreFewest (k count pages : ℕ) : Type 0 where
  pub enough : count < pages * (2 * k + 1)
  pub fewer : pages * (2 * k + 1) ≤ count + (2 * k + 1)

-- How many elements a page takes of those that are left, of which there are too many for it: as many as it holds, where
-- enough are left for the next page; else those two pages share them.
pub record TakesShare (k left taken : ℕ) : Type 0 where
  pub least : k ≤ taken
  pub most : taken ≤ 2 * k
  pub next : taken + 1 + k ≤ left
  pub full : 3 * k < left → taken ≡ 2 * k
  pub even : left ≤ 3 * k → (2 * taken < left) × (left ≤ 2 * taken + 2)

-- a store has room for the pages of a level of so many elements
pub record HasLevelRoom {S : Type 0} (s : Ghosts S) (k count elements : ℕ) (store : S) : Type 0 where
  pub pages : ℕ
  pub fewest : AreFewest k elements pages
  pub has : HasPages s count pages store
