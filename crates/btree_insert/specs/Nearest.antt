-- What a search for the element beside a gap answers.
use Rattle.std.specs.Prelude.{◌≡◌, ℕ, zero, suc, ◌-◌, List, [], ◌∷◌, ◌++◌, Option, Some, None, Result, Ok, Err, IsTrue, IfOk, MatchResult, slice_index_or}
use Rattle.page_store.specs.PageMap.{PageMap, at}
use Rattle.page_store.specs.PagesView.{PagesView}
use Rattle.btree_node.specs.declared.node.Node.{Node}
use Rattle.btree_node.specs.Lists.{Element}
use Rattle.rec_types.specs.Ordered.{is_left, nearest, listed_one, in_turn, IsGap, at_gap}
use Rattle.rec_types.specs.Told.{Takes, TakesPart}
use Rattle.rec_types.specs.declared.gap.Gap.{Gap}
use Rattle.rec_types.specs.declared.side.Side.{Side}
use Rattle.btree_insert.specs.declared.bounds.Bounds.{Bounds}
use Rattle.btree_insert.specs.declared.step.Spot.{Spot}
use Rattle.btree_insert.specs.declared.tree.Tree.{Tree}
use Rattle.btree_insert.specs.declared.tree.TreeFault.{TreeFault}
use Rattle.btree_insert.specs.declared.tree.TreeFault.TheVariants.{Device}
use Rattle.btree_insert.specs.Bounds.{AreWithin, Between, son_bounds, unbounded}
use Rattle.btree_insert.specs.Edits.{Looks}
use Rattle.btree_insert.specs.PageTrees.{Spells, TreeAt, Holds, kind_of_level}
use Rattle.btree_insert.specs.Steps.{BelongsAt}

-- the element beside the gap in a node, or what was found before, is kept as found
pub record KeepsBeside (side : Side) (from : Gap) (n : Node) (before found : Option Element) : Type 0 where
  pub gap : ℕ
  pub is_gap : IsGap (is_left from) n.elements.items gap
  pub found_is : found ≡ at_gap side n.elements.items gap before

-- the spot of a son, below a node at a spot
abbrev pub son_spot : Spot → Node → ℕ → Spot
son_spot spot n i = record { page = slice_index_or n.sons.items i 0; level = spot.level - 1; bounds = son_bounds n.elements.items i spot.bounds }

-- an inner node at a spot was passed: the way goes on to the son that the gap lies below
pub record Passes (side : Side) (from : Gap) (spot : Spot) (n : Node) (before found : Option Element) (below : Spot) : Type 0 where
  pub keeps : KeepsBeside side from n before found
  pub goes : below ≡ son_spot spot n keeps.gap

-- what is said of a node at a spot, which over a steady store its page spells
pub record OfNode (k : ℕ) (pages : PagesView) (spot : Spot) (says : Node → Type 0) : Type 0 where
  pub node : Node
  pub belongs : BelongsAt spot node
  pub spells : IsTrue pages.steady → Spells k (at pages.pages) spot.page node
  pub said : says node

-- a leaf ends the search, and below an inner node «below» goes on at the son that the gap lies below
abbrev pub GoesOnBeside : (ℕ → Bounds → Option Element → Option Element → Type 0) → ℕ → Node → ℕ → Bounds → Option Element → Option Element → Type 0
GoesOnBeside below zero n i bounds passed found = found ≡ passed
GoesOnBeside below (suc h) n i bounds passed found = below (slice_index_or n.sons.items i 0) (son_bounds n.elements.items i bounds) passed found

-- the pages from page p down to the gap, through so many levels: each spells a node of its level with its keys within the bounds from all levels above, and what is found is the last element passed beside the gap
abbrev pub LeadsBeside : (ℕ → Node → Type 0) → Side → Gap → ℕ → ℕ → Bounds → Option Element → Option Element → Type 0
LeadsBeside spells side from zero p bounds passed found = ⊥
LeadsBeside spells side from (suc h) p bounds passed found =
    (n : Node) × spells p n × (n.kind ≡ kind_of_level (suc h)) × AreWithin bounds n.elements.items × (i : ℕ) × IsGap (is_left from) n.elements.items i
    × GoesOnBeside (LeadsBeside spells side from h) h n i bounds (at_gap side n.elements.items i passed) found

-- a search from the root: an empty tree has no element
abbrev pub LeadsBesideFrom : (ℕ → Node → Type 0) → Side → Gap → ℕ → ℕ → Option Element → Type 0
LeadsBesideFrom spells side from zero root found = found ≡ None
LeadsBesideFrom spells side from (suc h) root found = LeadsBeside spells side from (suc h) root unbounded None found

-- the leaf that a gap lies in, of the tree of these elements: the element beside the gap there, or else the last one passed on the way down, is the nearest of all, and those beside the gap there, and that one, are the first of all
pub record InLeaf (k : ℕ) (pages : PageMap) (leaf : Spot) (side : Side) (from : Gap) (es : List Element) (passed found : Option Element) : Type 0 where
  pub node : Node
  pub spells : Spells k pages leaf.page node
  pub belongs : BelongsAt leaf node
  pub same : nearest side (is_left from) node.elements.items found ≡ nearest side (is_left from) es passed
  pub rest : List Element
  pub turn : in_turn side (is_left from) es (listed_one passed) ≡ in_turn side (is_left from) node.elements.items (listed_one found) ++ rest

-- the way from a spot down to the leaf that a gap lies in, where an element was passed above: in a tree that a steady store holds, and over any pages as they lead on. It reads at most one page a level above the leaf, and asks for no memory.
pub record FindsLeaf (k : ℕ) (spot : Spot) (side : Side) (from : Gap) (passed : Option Element) (old : PagesView) (answer : Result Spot TreeFault) (found : Option Element) (new : PagesView) : Type 0 where
  pub exact : IsTrue old.steady → (least : ℕ) (es : List Element) (us : List ℕ) → TreeAt k (at old.pages) least spot.level spot.page es us → Between spot.bounds es → MatchResult answer (λ leaf. InLeaf k (at old.pages) leaf side from es passed found) (λ fault. fault ≡ Device)
  pub level : IfOk answer (λ leaf. leaf.level ≡ 1)
  pub led : IsTrue old.steady → (stands : Option Element) → IfOk answer (λ leaf. LeadsBeside (Spells k (at old.pages)) side from leaf.level leaf.page leaf.bounds found stands → LeadsBeside (Spells k (at old.pages)) side from spot.level spot.page spot.bounds passed stands)
  pub leads : IsTrue old.steady → (stands : Option Element) → LeadsBeside (Spells k (at old.pages)) side from spot.level spot.page spot.bounds passed stands → MatchResult answer (λ leaf. LeadsBeside (Spells k (at old.pages)) side from leaf.level leaf.page leaf.bounds found stands) (λ fault. fault ≡ Device)
  pub reading : Looks (spot.level - 1) old answer new

abbrev pub IsNearest : Option Element → Result (Option Element) TreeFault → Type 0
IsNearest stands answer = MatchResult answer (λ found. found ≡ stands) (λ fault. fault ≡ Device)

-- the same from the root of a tree
pub record FindsNearest (tree : Tree) (side : Side) (from : Gap) (old : PagesView) (answer : Result (Option Element) TreeFault) (new : PagesView) : Type 0 where
  pub exact : IsTrue old.steady → (es : List Element) (us : List ℕ) → Holds (at old.pages) tree es us → IsNearest (nearest side (is_left from) es None) answer
  pub led : IsTrue old.steady → IfOk answer (LeadsBesideFrom (Spells tree.order (at old.pages)) side from tree.height tree.root)
  pub leads : IsTrue old.steady → (stands : Option Element) → LeadsBesideFrom (Spells tree.order (at old.pages)) side from tree.height tree.root stands → IsNearest stands answer
  pub reading : Looks tree.height old answer new

-- ---- a leaf is told

-- the key of the last of them, where there is one
abbrev pub IsLast : List Element → Option (List ℕ) → Type 0
IsLast es None = es ≡ []
IsLast es (Some key) = (front : List Element) × (e : Element) × (es ≡ front ++ e ∷ []) × (e.0 ≡ key)

-- a sink took what it was told, and the answer is the last key of that; or it stopped at it with a fault of its own
abbrev pub TakesTo : {F : Type 0} → (List Element → Type 0) → (List Element → F → Type 0) → List Element → Result (Option (List ℕ)) F → Type 0
TakesTo told stops es (Ok last) = told es × IsLast es last
TakesTo told stops es (Err fault) = stops es fault

-- a sink took a front of what there is, which is empty only where there is nothing
pub record TakesFirst {F : Type 0} (told : List Element → Type 0) (stops : List Element → F → Type 0) (es : List Element) (taken : Result (Option (List ℕ)) F) : Type 0 where
  pub front : List Element
  pub rest : List Element
  pub whole : es ≡ front ++ rest
  pub some : front ≡ [] → es ≡ []
  pub takes : TakesTo told stops front taken

-- it was told some of them, whatever the pages hold; none up to a fault
abbrev pub TellsTo : {F : Type 0} → (List Element → Type 0) → (List Element → F → Type 0) → Result (Result (Option (List ℕ)) F) TreeFault → Type 0
TellsTo told stops answer = MatchResult answer (λ taken. (es : List Element) × TakesTo told stops es taken) (λ _. told [])

-- it was told all of them, or a part up to a failed read
abbrev pub TellsOrDevice : {F : Type 0} → (List Element → Type 0) → (List Element → F → Type 0) → List Element → Result (Result (Unit {0}) F) TreeFault → Type 0
TellsOrDevice told stops es answer = MatchResult answer (Takes told stops es) (λ fault. (fault ≡ Device) × TakesPart told es)
