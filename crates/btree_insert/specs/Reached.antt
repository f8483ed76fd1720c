-- What a look-up, an insertion and a walk have gone through, over any pages.
use Rattle.std.specs.Prelude.{◌≡◌, ℕ, zero, suc, ◌+◌, ◌<◌, ◌≤◌, ◌⊎◌, List, [], length, Option, Some, None, slice_index_or}
use Rattle.btree_node.specs.declared.node.Node.{Node}
use Rattle.btree_node.specs.Lists.{Element, Ascends, IsAt, IsPlace}
use Rattle.btree_insert.specs.declared.bounds.Bounds.{Bounds}
use Rattle.btree_insert.specs.declared.tree.Tree.{Tree}
use Rattle.btree_insert.specs.Bounds.{AreWithin, Between, son_bounds, unbounded}
use Rattle.btree_insert.specs.PageTrees.{TreeOf, Apart, kind_of_level}

-- a key that is not in a node: a leaf has no record for it, and below an inner node «below» goes on at the son between whose neighbours it lies
abbrev pub GoesOn : (ℕ → Bounds → Option (List ℕ) → Type 0) → ℕ → Node → ℕ → Bounds → Option (List ℕ) → Type 0
GoesOn below zero n i bounds found = found ≡ None
GoesOn below (suc h) n i bounds found = below (slice_index_or n.sons.items i 0) (son_bounds n.elements.items i bounds) found

-- the pages from page p down to the key, through so many levels: each spells a node of its level with its keys within the bounds from all levels above
abbrev pub Leads : (ℕ → Node → Type 0) → List ℕ → ℕ → ℕ → Bounds → Option (List ℕ) → Type 0
Leads spells key zero p bounds found = ⊥
Leads spells key (suc h) p bounds found =
    (n : Node) × spells p n × (n.kind ≡ kind_of_level (suc h)) × AreWithin bounds n.elements.items × (i : ℕ)
    × ((IsAt n.elements.items key i × ((d : Element) → found ≡ Some (slice_index_or n.elements.items i d).1))
    ⊎ (IsPlace n.elements.items key i × GoesOn (Leads spells key h) h n i bounds found))

-- a search from the root: an empty tree has no record
abbrev pub LeadsFrom : (ℕ → Node → Type 0) → List ℕ → ℕ → ℕ → Option (List ℕ) → Type 0
LeadsFrom spells key zero root found = found ≡ None
LeadsFrom spells key (suc h) root found = Leads spells key (suc h) root unbounded found

-- elements that were told, from pages of which so many were left: those of a tree, or of several, between the bounds
pub record Adds (tree : List Element → List ℕ → Type 0) (bounds : Bounds) (told : List Element → Type 0) (left left' : ℕ) : Type 0 where
  pub es : List Element
  pub us : List ℕ
  pub here : tree es us
  pub between : Between bounds es
  pub added : told es
  pub fewer : left' + length us ≡ left

-- the pages hold a tree with these elements whose pages have one key at least, no page twice, and no more pages than it says. Its count is not looked at.
pub record IsThere (spells : ℕ → Node → Type 0) (t : Tree) (es : List Element) : Type 0 where
  pub us : List ℕ
  pub tree : TreeOf spells 1 1 t.height t.root es us
  pub ascends : Ascends es
  pub apart : Apart us
  pub used : length us ≤ t.used

-- a walk from the root: an empty tree has no elements
abbrev pub Walks : (ℕ → Node → Type 0) → Tree → List Element → Type 0
Walks spells t es = (t.height ≡ 0 → es ≡ []) × (0 < t.height → IsThere spells t es)
