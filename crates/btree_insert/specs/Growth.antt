-- What an insertion below a page comes to.
use Rattle.std.specs.Prelude.{◌≡◌, ℕ, suc, ◌+◌, ◌*◌, ◌<◌, ◌≤◌, ◌⊎◌, Bool, true, List, [], ◌∷◌, ◌++◌, length, Option, Some, None, IsSome, slice_index_or}
use Rattle.std.specs.List.{AllByRecursion, insert}
use Rattle.page_store.specs.PageMap.{at, is_written}
use Rattle.page_store.specs.FreeNumbers.{candidate}
use Rattle.page_store.specs.PagesView.{PagesView}
use Rattle.page_store.specs.declared.page_edit.PageEdit.{PageEdit}
use Rattle.page_store.specs.CanStage.{IsTaken}
use Rattle.btree_node.specs.declared.node.Node.{Node}
use Rattle.btree_node.specs.declared.node.NodeKind.TheVariants.{Leaf, Inner}
use Rattle.btree_node.specs.declared.page_change.PageChange.{PageChange}
use Rattle.btree_node.specs.declared.page_change.PageChange.TheVariants.{Replace, Insert}
use Rattle.btree_node.specs.Cut.{left_of, right_of}
use Rattle.btree_node.specs.Layout.{IsOrder}
use Rattle.btree_node.specs.Lists.{Element, Each, Ascends, IsPlace}
use Rattle.btree_node.specs.Spelling.{spelling, CanStand, IsElement, IsSon, SonsFit}
use Rattle.btree_insert.specs.declared.bounds.Bounds.{Bounds}
use Rattle.btree_insert.specs.declared.insert_below.Grown.{Grown}
use Rattle.btree_insert.specs.declared.insert_below.Grown.TheVariants.{Replaced, Fits, Split}
use Rattle.btree_insert.specs.declared.step.Spot.{Spot}
use Rattle.btree_insert.specs.declared.tree.TreeFault.{TreeFault}
use Rattle.btree_insert.specs.declared.tree.TreeFault.TheVariants.{Device, Damaged, Memory}
use Rattle.btree_insert.specs.Bounds.{Over, Under}
use Rattle.btree_insert.specs.Contents.{lookup_in, set_in}
use Rattle.btree_insert.specs.PagesGrown.{PagesGrown, PagesChange}
use Rattle.btree_insert.specs.PageTrees.{TreeAt, TreeBelow}
use Rattle.btree_insert.specs.Steps.{CanSearch}

-- the fault is not of the pages
abbrev pub IsNotOfPages : TreeFault → Type 0
IsNotOfPages Device = Unit {0}
IsNotOfPages (Damaged page) = ⊥
IsNotOfPages Memory = Unit {0}

-- a key strictly between the bounds
abbrev pub IsWithin : Bounds → List ℕ → Type 0
IsWithin bounds key = Over bounds.low key × Under bounds.high key

-- an element may be put into the tree below a spot
pub record CanInsert (k : ℕ) (spot : Spot) (in_place : Bool) (pages : PagesView) (element : Element) : Type 0 where
  pub order : IsOrder k
  pub search : CanSearch k spot in_place pages
  pub fits : IsElement element
  pub within : IsWithin spot.bounds element.0

-- a node that can stand in a page, or could without one of its keys
pub record MayBeOverfull (k : ℕ) (n : Node) : Type 0 where
  pub some : 0 < length n.elements.items
  pub most : length n.elements.items ≤ 2 * k + 1
  pub fit : Each (IsElement) n.elements.items
  pub ascends : Ascends n.elements.items
  pub sons : SonsFit n.kind (length n.elements.items) n.sons.items

-- a leaf in which an element has its place at i
pub record MayGain (n : Node) (i : ℕ) (e : Element) : Type 0 where
  pub leaf : n.kind ≡ Leaf
  pub place : IsPlace n.elements.items e.0 i

-- an inner node in which an element has its place at i, with a son to stand behind it
pub record MayGainSon (n : Node) (i : ℕ) (e : Element) (son : ℕ) : Type 0 where
  pub inner : n.kind ≡ Inner
  pub place : IsPlace n.elements.items e.0 i
  pub can_be : IsSon son

-- the node with an element before element i, and a son behind son i
abbrev pub with_son : Node → ℕ → Element → ℕ → Node
with_son n i e son = record { kind = n.kind; elements = record { items = insert n.elements.items i e }; sons = record { items = insert n.sons.items (suc i) son } }

-- what is written is in use or taken, and each taken number is written
pub record WritesFit (pages : List (Option (List ℕ))) (writes : List (ℕ × List ℕ)) (taken : ℕ) : Type 0 where
  pub written : AllByRecursion (λ (w : ℕ × List ℕ). IsSome (at pages w.0) ⊎ IsTaken pages taken w.0) writes
  pub taken_written : (i : ℕ) → i < taken → is_written writes (candidate pages i) ≡ true

-- how many numbers an insertion through so many levels takes: none where the key was there
abbrev pub TakesNumbers : ℕ → ℕ → ℕ → Grown → Type 0
TakesNumbers height old new (Replaced value) = new ≡ old
TakesNumbers height old new Fits = (old ≤ new) × (new ≤ old + height)
TakesNumbers height old new (Split middle right) = (old ≤ new) × (new ≤ old + height)

-- what goes up can stand in the father, within the bounds of the page
abbrev pub SplitGoesUp : Bounds → Grown → Type 0
SplitGoesUp bounds (Replaced value) = Unit {0}
SplitGoesUp bounds Fits = Unit {0}
SplitGoesUp bounds (Split middle right) = IsElement middle × IsWithin bounds middle.0 × IsSon right

-- what an insertion below a spot comes to: how many numbers it takes, and what goes up
pub record GrowsWithin (spot : Spot) (old new : ℕ) (g : Grown) : Type 0 where
  pub takes : TakesNumbers spot.level old new g
  pub goes_up : SplitGoesUp spot.bounds g

-- a node with a key too many, cut in two around its middle key: the left half written as page n, the right half as another page
pub record WritesHalves (k n other : ℕ) (old new : List (ℕ × List ℕ)) (node : Node) (middle : Element) : Type 0 where
  pub middle_is : (d : Element) → middle ≡ slice_index_or node.elements.items k d
  pub written : new ≡ (old ++ (n, spelling (left_of k node) k) ∷ []) ++ (other, spelling (right_of k node) k) ∷ []

-- a node written as page n, or cut in two around its middle key, the right half as a new page
abbrev pub WritesOrSplits : ℕ → ℕ → PageEdit → PageEdit → ℕ → Node → Grown → Type 0
WritesOrSplits k fresh old new n node (Replaced value) = ⊥
WritesOrSplits k fresh old new n node Fits =
    (length node.elements.items ≤ 2 * k) × (new.writes.items ≡ old.writes.items ++ (n, spelling node k) ∷ []) × (new.taken ≡ old.taken)
WritesOrSplits k fresh old new n node (Split middle right) =
    (length node.elements.items ≡ 2 * k + 1) × ((d : Element) → middle ≡ slice_index_or node.elements.items k d) × (right ≡ fresh)
    × (new.writes.items ≡ (old.writes.items ++ (n, spelling (left_of k node) k) ∷ []) ++ (fresh, spelling (right_of k node) k) ∷ []) × (new.taken ≡ old.taken + 1)

-- what an insertion that changed one page came to, by what stood at the key
abbrev pub in_one : Option (List ℕ) → Grown
in_one (Some value) = Replaced value
in_one None = Fits

-- the change of a page that puts an element at place i, by what stood at the key
abbrev pub change_at : ℕ → Option (List ℕ) → Element → PageChange
change_at i (Some value) e = Replace i e
change_at i None e = Insert i e

-- the record that stood at the key
abbrev pub replaced : Grown → Option (List ℕ)
replaced (Replaced value) = Some value
replaced Fits = None
replaced (Split middle right) = None

-- page n is written as a node of the kind and with the sons of m, and with these elements
pub record WritesAs (k n : ℕ) (m : Node) (els : List Element) (writes writes' : List (ℕ × List ℕ)) : Type 0 where
  pub node : Node
  pub stands : CanStand node k
  pub kind : node.kind ≡ m.kind
  pub elements : node.elements.items ≡ els
  pub sons : node.sons.items ≡ m.sons.items
  pub written : writes' ≡ writes ++ (n, spelling node k) ∷ []

-- the tree below the page now has the elements es; before, its pages were us
pub record Whole (below : TreeBelow) (change : PagesChange) (us : List ℕ) (es : List Element) : Type 0 where
  pub vs : List ℕ
  pub tree : TreeAt below.order change.new below.least below.height below.page es vs
  pub kept : PagesGrown change.old change.new change.fresh change.lo change.hi us vs

-- the trees below the page and a new page, with the key between them, now have the elements es
pub record Parts (below : TreeBelow) (change : PagesChange) (us : List ℕ) (es : List Element) (middle : Element) (right : ℕ) : Type 0 where
  pub xs : List Element
  pub ys : List Element
  pub before : List ℕ
  pub behind : List ℕ
  pub left_tree : TreeAt below.order change.new below.order below.height below.page xs before
  pub right_tree : TreeAt below.order change.new below.order below.height right ys behind
  pub es_is : es ≡ xs ++ middle ∷ ys
  pub kept : PagesGrown change.old change.new change.fresh change.lo change.hi us (before ++ behind)

-- the elements es stand below the page, or below it and a new page
abbrev pub Grows : TreeBelow → PagesChange → List ℕ → List Element → Grown → Type 0
Grows below change us es (Replaced value) = Whole below change us es
Grows below change us es Fits = Whole below change us es
Grows below change us es (Split middle right) = Parts below change us es middle right

-- what an insertion says of the record that stood at the key
abbrev pub TellsOld : List ℕ → List Element → Grown → Type 0
TellsOld key es (Replaced value) = lookup_in key es ≡ Some value
TellsOld key es Fits = lookup_in key es ≡ None
TellsOld key es (Split middle right) = lookup_in key es ≡ None

-- the tree below the page had the elements es and the pages us; now the record stands at the key, and everything else is as it was
pub record Grew (below : TreeBelow) (change : PagesChange) (es : List Element) (us : List ℕ) (key value : List ℕ) (g : Grown) : Type 0 where
  pub told : TellsOld key es g
  pub grows : Grows below change us (set_in key (Some value) es) g
