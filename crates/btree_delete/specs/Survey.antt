-- What a walk that looks at each page of a tree once goes through.
use Rattle.std.specs.Prelude.{◌≡◌, ◌≢◌, ℕ, zero, suc, ◌+◌, ◌-◌, ◌<◌, ◌≤◌, ◌↔◌, Bool, true, false, ◌⊎◌, List, [], ◌∷◌, length, drop, replicate, Option, Some, None, slice_index_or, slice_set, IsTrue, IsSome}
use Rattle.rec_types.specs.Table.{counted}
use Rattle.page_store.specs.PageMap.{PageMap, at}
use Rattle.page_store.specs.Calls.{counted_times}
use Rattle.btree_node.specs.Lists.{Element, Ascends}
use Rattle.btree_insert.specs.Sizes.{greatest_height}
use Rattle.btree_insert.specs.declared.bounds.Bounds.{Bounds}
use Rattle.btree_insert.specs.declared.tree.Tree.{Tree}
use Rattle.btree_insert.specs.Bounds.{AreWithin, Between}
use Rattle.btree_insert.specs.PageTrees.{IsIn, Apart, Fan, SpellsIn, Spells, TreeIn, RootIn, HoldsIn}
use Rattle.btree_insert.specs.Spelt.{AreSpeltIn}
use Rattle.btree_node.specs.Layout.{second_layout, first_version, layout_of, IsOrder}
use Rattle.btree_node.specs.Reading.{node_at}
use Rattle.btree_node.specs.Spelling.{spelling, spelling_in, CanStandIn}
use Rattle.btree_node.specs.declared.layout.Layout.{Layout}
use Rattle.btree_node.specs.declared.node.Node.{Node}
use Rattle.page_store.specs.PagesView.{PagesView, is_in_memory, OnlyReads, OnlyStages}
use Rattle.btree_delete.specs.CleanFile.{in_file}

-- which pages were reached, how many levels below the most a tree may have the first leaf stood, and how many keys were met
pub record SeenSoFar : Type 0 where
  pub reached : List Bool
  pub leaf : Option ℕ
  pub keys : ℕ

-- pages reached one after another
abbrev pub mark : List ℕ → List Bool → List Bool
mark [] reached = reached
mark (u ∷ us) reached = mark us (slice_set reached u true)

-- each is below the page count and was not reached before, also not by those before it
abbrev pub AreUnvisited : List ℕ → List Bool → Type 0
AreUnvisited [] reached = Unit {0}
AreUnvisited (u ∷ us) reached = (slice_index_or reached u true ≡ false) × AreUnvisited us (slice_set reached u true)

-- how many pages were not reached
abbrev pub unreached : List Bool → ℕ
unreached [] = 0
unreached (true ∷ reached) = unreached reached
unreached (false ∷ reached) = suc (unreached reached)

-- what was seen after a tree with these elements and pages whose leaves stand at a level
abbrev pub seen_past : ℕ → List Element → List ℕ → SeenSoFar → SeenSoFar
seen_past level es us old = record { reached = mark us old.reached; leaf = Some level; keys = old.keys + length es }

-- the node that the bytes of a page spell as it is written, and what of it stands from a place on
abbrev pub node_in : ℕ → List ℕ → Node
node_in k page = node_at second_layout k page

abbrev pub sons_from : ℕ → List ℕ → ℕ → List ℕ
sons_from k page i = drop i (node_in k page).sons.items

abbrev pub elements_from : ℕ → List ℕ → ℕ → List Element
elements_from k page i = drop i (node_in k page).elements.items

-- bytes that spell a node in a layout, and those that spell it as it is written
pub record Respells (layout : Layout) (k : ℕ) (old new : List ℕ) : Type 0 where
  pub stands : CanStandIn layout (node_in k new) k
  pub was : old ≡ spelling_in layout (node_in k new) k
  pub now : new ≡ spelling (node_in k new) k

-- the trees below a page by the levels below it, and below its sons
abbrev pub below_page : Layout → ℕ → PageMap → ℕ → ℕ → ℕ → List Element → List ℕ → Type 0
below_page layout k pages least p h es us = TreeIn layout k pages least (suc h) p es us

abbrev pub below_sons : Layout → ℕ → PageMap → List ℕ → List Element → ℕ → List Element → List ℕ → Type 0
below_sons layout k pages sons els h es us = Fan (TreeIn layout k pages k (suc h)) sons els es us

-- what the levels above allow a tree: so many levels more below its root, and keys between these bounds
pub record Allowed : Type 0 where
  pub left : ℕ
  pub bounds : Bounds

abbrev pub allowed : ℕ → Bounds → Allowed
allowed left bounds = record { left = left; bounds = bounds }

-- a tree that fits what was seen: its keys are between the bounds, its pages are new, and its leaves stand where the others do
pub record Sound (tree : ℕ → List Element → List ℕ → Type 0) (may : Allowed) (old : SeenSoFar) (h level : ℕ) (es : List Element) (us : List ℕ) : Type 0 where
  pub stands : tree h es us
  pub levels : may.left ≡ level + h
  pub between : Between may.bounds es
  pub unvisited : AreUnvisited us old.reached
  pub leaf : (old.leaf ≡ None) ⊎ (old.leaf ≡ Some level)

-- such a tree was gone through, with one read a page
pub record Surveyed (tree : ℕ → List Element → List ℕ → Type 0) (may : Allowed) (old new : SeenSoFar) (reads reads' : ℕ) : Type 0 where
  pub h : ℕ
  pub level : ℕ
  pub es : List Element
  pub us : List ℕ
  pub sound : Sound tree may old h level es us
  pub is : new ≡ seen_past level es us old
  pub read : reads' ≡ counted_times reads (length us)

-- no page was reached, of so many
abbrev pub none_of : ℕ → List Bool
none_of count = replicate count false

-- where the first leaf of a tree of a height stands
abbrev pub first_leaf_level : ℕ → Option ℕ
first_leaf_level zero = None
first_leaf_level (suc h) = Some (greatest_height - 1 - h)

-- the height of the tree whose first leaf stands there
abbrev pub height_of : Option ℕ → ℕ
height_of None = 0
height_of (Some level) = greatest_height - level

-- what was seen of the whole tree of a root
abbrev pub seen_of : ℕ → ℕ → List Element → List ℕ → SeenSoFar
seen_of count height es us = record { reached = mark us (none_of count); leaf = first_leaf_level height; keys = length es }

-- the tree of a root: in so many pages it has a height, elements and pages, none of them twice
pub record IsRooted (layout : Layout) (k : ℕ) (pages : PageMap) (root height : ℕ) (es : List Element) (us : List ℕ) : Type 0 where
  pub tree : RootIn layout k pages height root es us
  pub ascends : Ascends es
  pub apart : Apart us

-- such a tree was gone through, with one read a page
pub record WentThrough (layout : Layout) (k : ℕ) (pages : PageMap) (count root : ℕ) (new : SeenSoFar) (reads reads' : ℕ) : Type 0 where
  pub height : ℕ
  pub es : List Element
  pub us : List ℕ
  pub rooted : IsRooted layout k pages root height es us
  pub low : height ≤ greatest_height
  pub is : new ≡ seen_of count height es us
  pub read : reads' ≡ counted_times reads (length us)

-- the numbers from 1 on below the page count that no page of the tree has
abbrev pub AreFree : ℕ → List ℕ → (ℕ → Bool) → Type 0
AreFree count us free = (n : ℕ) → (free n ≡ true) ↔ ((1 ≤ n) × (n < count) × (IsIn n us → ⊥))

-- the pages hold the tree of a root, the other numbers are free, and each of its pages was read once
pub record Measured (layout : Layout) (k : ℕ) (pages : List (Option (List ℕ))) (root : ℕ) (tree : Tree) (free : ℕ → Bool) (reads reads' : ℕ) : Type 0 where
  pub es : List Element
  pub us : List ℕ
  pub holds : HoldsIn layout (at pages) tree es us
  pub order : tree.order ≡ k
  pub root_is : tree.root ≡ root
  pub low : tree.height ≤ greatest_height
  pub others : AreFree (length pages) us free
  pub read : reads' ≡ counted_times reads tree.used

-- the pages of the store by their numbers
abbrev pub stored_page : PagesView → PageMap
stored_page v = in_file v.stored

-- pages that are the store's, of which none is in memory
pub record AreFresh (v : PagesView) : Type 0 where
  pub whole : length v.pages ≡ length v.stored
  pub same : (n : ℕ) → at v.pages n ≡ stored_page v n
  pub none : (n : ℕ) → is_in_memory v n ≡ false

-- the trees in pages that are the store's can be surveyed, of an order that a tree can have
abbrev pub CanSurvey : ℕ → PagesView → Type 0
CanSurvey order pages = IsOrder order × AreFresh pages

-- the store's page spells a node, and its newest bytes spell that node as it is written
pub record IsRespelt (layout : Layout) (k : ℕ) (v : PagesView) (q : ℕ) : Type 0 where
  pub node : Node
  pub was : SpellsIn layout k (stored_page v) q node
  pub now : Spells k (at v.pages) q node

-- what a walk keeps of the pages: those that it has not reached are the store's, and each that it has reached spells its node as it is written
pub record AreKept (layout : Layout) (k : ℕ) (v : PagesView) (reached : List Bool) : Type 0 where
  pub whole : length v.pages ≡ length v.stored
  pub unread : (q : ℕ) → slice_index_or reached q true ≡ false → (at v.pages q ≡ stored_page v q) × (is_in_memory v q ≡ false)
  pub respelt : IsTrue v.steady → (q : ℕ) → slice_index_or reached q false ≡ true → IsRespelt layout k v q
  pub spelt : AreSpeltIn k v

-- a page that was read from the store: its bytes spell its node as it is written, and in a file of the second version they are those that are stored
pub record WasRead (version k : ℕ) (v : PagesView) (n : ℕ) (page : List ℕ) : Type 0 where
  pub stands : CanStandIn (layout_of version) (node_in k page) k
  pub written : page ≡ spelling (node_in k page) k
  pub in_use : IsSome (at v.pages n)
  pub read : version ≢ first_version → IsTrue v.steady → at v.pages n ≡ Some page
  pub unread : is_in_memory v n ≡ false

-- a node that was read: it can stand in a page, has at least so many keys, and all of them within the bounds
pub record StandsWithin (layout : Layout) (k least : ℕ) (bounds : Bounds) (n : Node) : Type 0 where
  pub stands : CanStandIn layout n k
  pub enough : least ≤ length n.elements.items
  pub within : AreWithin bounds n.elements.items

-- the pages of a file of that version were read, and those of the first version put into memory; and whether a read failed
pub record Surveys (version : ℕ) (failed : Bool) (old new : PagesView) : Type 0 where
  pub store : OnlyStages old new
  pub device : new.failures ≡ counted old.failures failed
  pub same : version ≢ first_version → OnlyReads old new

-- how the pages are left: those in use spell their nodes as they are written, and the free ones are as they are stored
pub record LeavesFile (layout : Layout) (k : ℕ) (old new : PagesView) (free : ℕ → Bool) : Type 0 where
  pub free_fits : (n : ℕ) → IsTrue (free n) → (1 ≤ n) × (n < length old.pages)
  pub free_stay : (q : ℕ) → free q ≡ true → at new.pages q ≡ stored_page new q
  pub respelt : IsTrue old.steady → (q : ℕ) → 1 ≤ q → q < length old.pages → free q ≡ false → IsRespelt layout k new q
  pub whole : length new.pages ≡ length new.stored
  pub spelt : AreSpeltIn k new
