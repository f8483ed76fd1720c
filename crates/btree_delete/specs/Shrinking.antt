-- What a deletion below a page comes to.
use Rattle.std.specs.Prelude.{◌≡◌, ℕ, suc, ◌+◌, ◌-◌, ◌*◌, ◌<◌, ◌≤◌, true, false, List, [], ◌∷◌, ◌++◌, length, Option, Some, None, IsSome, take, slice_index_or}
use Rattle.page_store.specs.PageMap.{PageMap, at}
use Rattle.btree_node.specs.declared.node.Node.{Node}
use Rattle.btree_node.specs.Layout.{IsOrder}
use Rattle.btree_node.specs.Lists.{Element, Each, Ascends}
use Rattle.btree_node.specs.Spelling.{spelling, IsElement, SonsFit}
use Rattle.btree_insert.specs.declared.bounds.Bounds.{Bounds}
use Rattle.btree_insert.specs.declared.tree.Tree.{Tree}
use Rattle.btree_insert.specs.Bounds.{AreWithin, son_bounds}
use Rattle.btree_insert.specs.Contents.{lookup_in, set_in}
use Rattle.btree_insert.specs.Growth.{IsWithin}
use Rattle.btree_insert.specs.PageTrees.{IsIn, Body, TreeAt, kind_of_level}
use Rattle.btree_delete.specs.declared.deletion.subtree.Subtree.{Subtree}
use Rattle.btree_delete.specs.declared.deletion.delete_below.Shrunk.{Shrunk}
use Rattle.btree_delete.specs.declared.deletion.delete_below.Shrunk.TheVariants as shrunk
use Rattle.btree_delete.specs.PagesLeft.{PagesLeft, PagesFreed}
use Rattle.btree_delete.specs.Treatment.{son_number, Brothers, Treats}
use Rattle.btree_delete.specs.Subtrees.{HeadPage, left_bounds}
use Rattle.btree_delete.specs.Tidy.{is_visited, most_visited, Untouched, IsAwaited, IsTidy, IsVisit, DoneSoFar, done_so_far, Visits}

-- a node of a level, within bounds, that fits a page but for the least number of keys
pub record MayBeUnderfull (k height : ℕ) (bounds : Bounds) (n : Node) : Type 0 where
  pub kind : n.kind ≡ kind_of_level height
  pub most : length n.elements.items ≤ 2 * k
  pub fit : Each (IsElement) n.elements.items
  pub ascends : Ascends n.elements.items
  pub within : AreWithin bounds n.elements.items
  pub sons : SonsFit n.kind (length n.elements.items) n.sons.items

-- a tree of an order that has a page
pub record IsSubtree (t : Subtree) : Type 0 where
  pub order : IsOrder t.order
  pub height : 0 < t.height

-- the node at the head of a tree, with an element i
pub record HasElement (t : Subtree) (n : Node) (i : ℕ) : Type 0 where
  pub tree : IsSubtree t
  pub node : MayBeUnderfull t.order t.height t.bounds n
  pub place : i < length n.elements.items

-- the head of a tree was visited, and there is room for the pages that are visited below it
pub record IsReached (visited : List ℕ) (t : Subtree) : Type 0 where
  pub here : is_visited visited t.page ≡ true
  pub levels : length visited + 2 * t.height ≤ most_visited + 2

-- a father at the head of a tree, and the node of its son i, of which either may be underfull
pub record HasSon (t : Subtree) (f : Node) (i : ℕ) (s : Node) : Type 0 where
  pub order : IsOrder t.order
  pub height : 2 ≤ t.height
  pub father : MayBeUnderfull t.order t.height t.bounds f
  pub some : 0 < length f.elements.items
  pub place : i ≤ length f.elements.items
  pub son : MayBeUnderfull t.order (t.height - 1) (son_bounds f.elements.items i t.bounds) s

-- the son's page was visited, and waits for its treatment with a brother
pub record CanTreat (pages : List (Option (List ℕ))) (visited : List ℕ) (done : DoneSoFar) (t : Subtree) (f : Node) (i : ℕ) (s : Node) : Type 0 where
  pub sons : HasSon t f i s
  pub room : length visited < most_visited
  pub in_use : IsSome (at pages (son_number f i))
  pub tidy : IsTidy pages visited done.writes done.freed
  pub awaited : IsAwaited visited done (son_number f i)

-- one page more was visited, and of those that were before only the son's was written or freed
pub record TreatsSon (pages : List (Option (List ℕ))) (visited : Visits) (old new : DoneSoFar) (son : ℕ) : Type 0 where
  pub tidy : IsTidy pages visited.now new.writes new.freed
  pub others : (q : ℕ) → is_visited visited.before q ≡ true → (q ≡ son → ⊥) → Untouched old.writes old.freed q → Untouched new.writes new.freed q
  pub stays : (q : ℕ) → is_visited visited.before q ≡ true → is_visited visited.now q ≡ true
  pub one_more : length visited.now ≡ length visited.before + 1

-- the same, but that the father's page may be written, too
pub record SettlesFather (pages : List (Option (List ℕ))) (visited : Visits) (old new : DoneSoFar) (son page : ℕ) : Type 0 where
  pub tidy : IsSome (at pages page) → IsTidy pages visited.now new.writes new.freed
  pub others : (q : ℕ) → is_visited visited.before q ≡ true → (q ≡ son → ⊥) → (q ≡ page → ⊥) → Untouched old.writes old.freed q → Untouched new.writes new.freed q
  pub stays : (q : ℕ) → is_visited visited.before q ≡ true → is_visited visited.now q ≡ true
  pub one_more : length visited.now ≡ length visited.before + 1

-- an element was taken out of the head of a tree: of the pages that were visited before, only the head was written or freed
pub record TakesHere (pages : List (Option (List ℕ))) (visited : Visits) (done : DoneSoFar) (t : Subtree) : Type 0 where
  pub tidy : IsSome (at pages t.page) → IsTidy pages visited.now done.writes done.freed
  pub older : (q : ℕ) → is_visited visited.before q ≡ true → (q ≡ t.page → ⊥) → Untouched done.writes done.freed q
  pub stays : (q : ℕ) → is_visited visited.before q ≡ true → is_visited visited.now q ≡ true
  pub few : length visited.now + 2 ≤ length visited.before + 2 * t.height

-- a tree was visited, of which the first page is in use
pub record VisitsBelow (pages : List (Option (List ℕ))) (visited : Visits) (done : DoneSoFar) (t : Subtree) : Type 0 where
  pub in_use : IsSome (at pages t.page)
  pub tidy : IsTidy pages visited.now done.writes done.freed
  pub visit : IsVisit visited.before visited.now done.writes done.freed t.height t.page

-- what the removal of an element below a page came to: the element, and the page's node where it is underfull
pub data Removal : Type 0 where
  Whole : Element → Removal
  Underfull : Element → Node → Removal

-- the same of what a call answered and of the node that it left
abbrev pub removal : Node → Shrunk → Removal
removal node (shrunk.Whole e) = Whole e
removal node (shrunk.Underfull e) = Underfull e node

abbrev pub removal_if : Node → Option Shrunk → Option Removal
removal_if node None = None
removal_if node (Some g) = Some (removal node g)

-- the node was written as page n, or it is underfull
abbrev pub WritesOrHandsUp : ℕ → List (ℕ × List ℕ) → List (ℕ × List ℕ) → ℕ → Element → Node → Removal → Type 0
WritesOrHandsUp k writes writes' n removed node (Whole e) =
    (e ≡ removed) × (k ≤ length node.elements.items) × (writes' ≡ writes ++ (n, spelling node k) ∷ [])
WritesOrHandsUp k writes writes' n removed node (Underfull e underfull) =
    (e ≡ removed) × (length node.elements.items < k) × (underfull ≡ node) × (writes' ≡ writes)

-- an underfull node goes up, its page is not touched
abbrev pub UnderfullGoesUp : ℕ → ℕ → Bounds → ℕ → List (ℕ × List ℕ) → List ℕ → Removal → Type 0
UnderfullGoesUp k height bounds n writes freed (Whole e) = Unit {0}
UnderfullGoesUp k height bounds n writes freed (Underfull e node) =
    MayBeUnderfull k height bounds node × (length node.elements.items < k) × Untouched writes freed n

-- the tree below page p lost some pages: lo numbers were freed before, hi are freed now
pub record Loses (old new : PageMap) (lo hi : ℕ) (us vs : List ℕ) : Type 0 where
  pub left : PagesLeft old new us vs
  pub count : length vs + hi ≡ length us + lo

-- the elements es are left below the page, or below its underfull node, whose page is as it was; before, the pages were us
abbrev pub LeavesTree : HeadPage → PagesFreed → List ℕ → List Element → Removal → Type 0
LeavesTree head change us es (Whole e) =
    (vs : List ℕ) × TreeAt head.order change.new head.least (suc head.levels) head.page es vs × Loses change.old change.new change.lo change.hi us vs
LeavesTree head change us es (Underfull e node) =
    (below : List ℕ) × Body (TreeAt head.order change.new head.order head.levels) head.levels node es below
    × (change.new head.page ≡ change.old head.page) × Loses change.old change.new change.lo change.hi us (head.page ∷ below)

-- the element that went
abbrev pub gone : Removal → Element
gone (Whole e) = e
gone (Underfull e node) = e

-- the record that stood at the key, if one went
abbrev pub record_gone : Option Removal → Option (List ℕ)
record_gone None = None
record_gone (Some g) = Some (gone g).1

-- what is not below the page stays unvisited
abbrev pub StaysUnvisited : List ℕ → List ℕ → List ℕ → Type 0
StaysUnvisited visited visited' us = (q : ℕ) → is_visited visited q ≡ false → (IsIn q us → ⊥) → is_visited visited' q ≡ false

-- the key that goes: the given one, or the first
abbrev pub sought : Option (List ℕ) → List Element → List ℕ
sought None es = (slice_index_or es 0 ([], [])).0
sought (Some key) es = key

-- of the elements es and the pages us below the page, the key was taken out, or was not there
abbrev pub Drops : HeadPage → PagesFreed → List Element → List ℕ → List ℕ → Option Removal → Type 0
Drops head change es us key None = lookup_in key es ≡ None
Drops head change es us key (Some g) =
    ((gone g).0 ≡ key) × (lookup_in key es ≡ Some (gone g).1) × LeavesTree head change us (set_in key None es) g

-- the same, and only pages below the page were visited
pub record RemovesBelow (head : HeadPage) (change : PagesFreed) (es : List Element) (us : List ℕ) (visited : Visits) (key : List ℕ) (g : Option Removal) : Type 0 where
  pub drops : Drops head change es us key g
  pub unvisited : StaysUnvisited visited.before visited.now us

-- what goes up from a deletion: the element that went, and an underfull node of what is left; only a given key may be absent
abbrev pub MayGoUp : Subtree → Option (List ℕ) → DoneSoFar → Option Removal → Type 0
MayGoUp tree key done None = IsSome key
MayGoUp tree key done (Some g) =
    IsElement (gone g) × IsWithin tree.bounds (gone g).0
    × UnderfullGoesUp tree.order tree.height (left_bounds key (gone g) tree.bounds) tree.page done.writes done.freed g

-- what was written before a page was settled
abbrev pub unsettled : Removal → List (ℕ × List ℕ) → List (ℕ × List ℕ)
unsettled (Whole e) writes = take (length writes - 1) writes
unsettled (Underfull e node) writes = writes

-- a father at the head of a tree was treated with a brother of its underfull son, and was written or is underfull
pub record TreatsAndSettles (tree : Subtree) (father : Node) (pair : Brothers) (removed : Element) (old new : DoneSoFar) (g : Removal) : Type 0 where
  pub treated : Node
  pub treats : Treats tree.order father treated pair old (done_so_far (unsettled g new.writes) new.freed)
  pub may_be_underfull : MayBeUnderfull tree.order tree.height tree.bounds treated
  pub kept : Untouched (unsettled g new.writes) new.freed tree.page
  pub settles : WritesOrHandsUp tree.order (unsettled g new.writes) new.writes tree.page removed treated g

-- the underfull node of a root with a key is written; a root without one is freed, and its first son, if it has one, is the root
pub record ShrinksRoot (tree next : Tree) (node : Node) (writes writes' : List (ℕ × List ℕ)) (freed freed' : List ℕ) : Type 0 where
  pub written : 0 < length node.elements.items → (next ≡ tree) × (writes' ≡ writes ++ (tree.root, spelling node tree.order) ∷ []) × (freed' ≡ freed)
  pub dropped : length node.elements.items ≡ 0 → (next ≡ record tree { root = slice_index_or node.sons.items 0 0; height = tree.height - 1 }) × (writes' ≡ writes) × (freed' ≡ freed ++ tree.root ∷ [])
