-- The tree that is built of records: its levels, and the file that holds it.
use Rattle.std.specs.Prelude.{◌≡◌, ℕ, ◌-◌, ◌<◌, true, List, [], ◌∷◌, ◌+◌, length, sum, Some}
use Rattle.rec_types.specs.History.{Change}
use Rattle.btree_node.specs.Layout.{second_version}
use Rattle.btree_node.specs.Lists.{Element}
use Rattle.btree_insert.specs.declared.tree.Tree.{Tree}
use Rattle.btree_insert.specs.Contents.{contents_of}
use Rattle.btree_insert.specs.PageTrees.{RootAt}
use Rattle.btree_delete.specs.CleanFile.{in_file}
use Rattle.btree_delete.specs.TableView.{IsClosed}
use Rattle.page_store.specs.declared.store_state.StoreState.{Ghosts}
use Rattle.btree_load.specs.Filling.{HasPages}
use Rattle.btree_load.specs.Rows.{AreFewest}

-- How many pages each level of a tree of order k has, from the lowest on: no fewer have room for its elements, and of
-- these the one between any two pages stands in the level above.
abbrev pub AreLevels : ℕ → ℕ → List ℕ → Type 0
AreLevels k count [] = count ≡ 0
AreLevels k count (pages ∷ levels) = (0 < count) × AreFewest k count pages × AreLevels k (pages - 1) levels

-- a store has the pages of a tree of so many elements, and no more
pub record HasLevels {S : Type 0} (s : Ghosts S) (k count elements : ℕ) (store : S) : Type 0 where
  pub levels : List ℕ
  pub are : AreLevels k elements levels
  pub has : HasPages s count (sum levels) store
  pub exact : count + sum levels ≡ length (s.pages store)

-- the pages of a file hold the tree of a root with these elements
pub record HasRoot (k : ℕ) (stored : List (List ℕ)) (root : ℕ) (es : List Element) : Type 0 where
  pub height : ℕ
  pub us : List ℕ
  pub tree : RootAt k (in_file stored) height root es us

-- a closed file of the second version, whose tree of order k has these elements
pub record IsFilled (k : ℕ) (stored : List (List ℕ)) (tail : ℕ) (es : List Element) : Type 0 where
  pub tree : Tree
  pub order : tree.order ≡ k
  pub closed : IsClosed second_version stored tail tree (contents_of es)

-- records put one after another, by one transaction
abbrev pub puts : List Element → List Change
puts [] = []
puts (e ∷ es) = record { tx = 1; key = e.0; after = Some (Some e.1); live = true } ∷ puts es
