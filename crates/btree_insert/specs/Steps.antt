-- Where the search for a key goes from a page.
use Rattle.std.specs.Prelude.{◌≡◌, ℕ, ◌<◌, ◌≤◌, Bool, true, false, ◌&&◌, List, Some, IsTrue, slice_index_or}
use Rattle.page_store.specs.PageMap.{at}
use Rattle.page_store.specs.PagesView.{PagesView, is_in_memory}
use Rattle.btree_node.specs.declared.node.Node.{Node}
use Rattle.btree_node.specs.Layout.{IsSmallOrder}
use Rattle.btree_node.specs.Lists.{Element, IsAt, IsPlace}
use Rattle.btree_node.specs.Reading.{count_at}
use Rattle.btree_node.specs.Spelling.{spelling, CanStand, IsSpelt}
use Rattle.btree_insert.specs.declared.bounds.Bounds.{Bounds}
use Rattle.btree_insert.specs.declared.step.Spot.{Spot}
use Rattle.btree_insert.specs.declared.step.Step.{Step}
use Rattle.btree_insert.specs.declared.tree.Tree.{Tree}
use Rattle.btree_insert.specs.declared.step.Step.TheVariants.{Found, Ends, Goes}
use Rattle.btree_insert.specs.Bounds.{AreWithin, son_bounds, unbounded}
use Rattle.btree_insert.specs.PageTrees.{Spells, kind_of_level}
use Rattle.btree_insert.specs.Spelt.{AreSpeltIn}

-- a search of order k may begin at a spot: where pages are searched in memory, they spell nodes
pub record CanSearch (k : ℕ) (spot : Spot) (in_place : Bool) (pages : PagesView) : Type 0 where
  pub order : IsSmallOrder k
  pub level : 0 < spot.level
  pub spelt : IsTrue in_place → AreSpeltIn k pages

-- the page at the root of a tree, which no level above bounds
abbrev pub root_spot : Tree → Spot
root_spot tree = record { page = tree.root; level = tree.height; bounds = unbounded }

-- the page spells a node that has a place i for a son: before, between or behind its keys
abbrev pub HasSonAt : ℕ → List ℕ → ℕ → Type 0
HasSonAt k page i = IsSmallOrder k × IsSpelt k page × (i ≤ count_at page)

-- where the search goes from a node at a level: to the record of the key, no further, or to the son between whose neighbours the key lies
abbrev pub Steps : ℕ → Node → Bounds → List ℕ → Step → Type 0
Steps level n bounds key (Found i value) = IsAt n.elements.items key i × ((d : Element) → value ≡ (slice_index_or n.elements.items i d).1)
Steps level n bounds key (Ends i) = (level ≡ 1) × IsPlace n.elements.items key i
Steps level n bounds key (Goes i son between) = (1 < level) × IsPlace n.elements.items key i × (son ≡ slice_index_or n.sons.items i 0) × (between ≡ son_bounds n.elements.items i bounds)

-- a node that belongs at a spot: of the kind of its level, its keys within the bounds
pub record BelongsAt (spot : Spot) (n : Node) : Type 0 where
  pub kind : n.kind ≡ kind_of_level spot.level
  pub within : AreWithin spot.bounds n.elements.items

-- the node of page p, which can stand: where the page was searched in memory, its bytes there spell the node; any other page was read, and its bytes are «read»
pub record IsKnown (k : ℕ) (pages : PagesView) (p : ℕ) (in_place : Bool) (read : List ℕ) (n : Node) : Type 0 where
  pub stands : CanStand n k
  pub lies : in_place ≡ true → is_in_memory pages p ≡ true → at pages.pages p ≡ Some (spelling n k)
  pub was_read : (in_place && is_in_memory pages p) ≡ false → read ≡ spelling n k

-- a node at a spot from which the search took a step, which over a steady store its page spells
pub record Stepped (k : ℕ) (pages : PagesView) (spot : Spot) (key : List ℕ) (in_place : Bool) (read : List ℕ) (step : Step) : Type 0 where
  pub node : Node
  pub known : IsKnown k pages spot.page in_place read node
  pub belongs : BelongsAt spot node
  pub spells : IsTrue pages.steady → Spells k (at pages.pages) spot.page node
  pub steps : Steps spot.level node spot.bounds key step
