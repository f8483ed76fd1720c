-- What contracts see of a table in a tree, and what holds of it.
use Rattle.std.specs.Prelude.{◌≡◌, ℕ, ◌≤◌, false, IsTrue, List, Option, IsSome}
use Rattle.page_store.specs.PageMap.{at}
use Rattle.page_store.specs.PagesView.{PagesView}
use Rattle.btree_node.specs.declared.header.Header.{Header}
use Rattle.btree_node.specs.Layout.{second_version}
use Rattle.btree_node.specs.Lists.{Element}
use Rattle.btree_insert.specs.declared.tree.Tree.{Tree}
use Rattle.btree_insert.specs.Sizes.{IsTree}
use Rattle.btree_insert.specs.PageTrees.{IsIn, Holds}
use Rattle.btree_insert.specs.Spelt.{AreSpeltIn}
use Rattle.btree_insert.specs.Contents.{contents_of}
use Rattle.btree_insert.specs.Elements.{contents_at}
use Rattle.rec_types.specs.Contents.{Contents}
use Rattle.rec_types.specs.LimitBounds.{most_records}
use Rattle.rec_types.specs.Calls.{no_calls}
use Rattle.rec_types.specs.Table.{Damages, no_damage}
use Rattle.rec_types.specs.declared.table_calls.TableCalls.{TableCalls}
use Rattle.btree_delete.specs.declared.table.fault_counts.FaultCounts.{FaultCounts}
use Rattle.btree_delete.specs.CleanFile.{IsCleanFile}

-- the pages, the tree in them, how many records there may be, how many calls a refused growth ended, what was told of damaged pages, and how often the table was called
pub record TableView : Type 0 where
  pub pages : PagesView
  pub tree : Tree
  pub limit : ℕ
  pub refusals : ℕ
  pub damages : Damages
  pub calls : TableCalls

-- the table of these parts
abbrev pub table_of : PagesView → Tree → ℕ → FaultCounts → TableCalls → TableView
table_of pages tree limit faults calls = record { pages = pages; tree = tree; limit = limit; refusals = faults.refusals; damages = record { count = faults.damaged; page = faults.page }; calls = calls }

-- the records, as a function of the pages and the tree: total, whatever the pages hold
abbrev pub table_contents : TableView → Contents
table_contents t = contents_at t.tree.order (at t.pages.pages) t.tree.height t.tree.root

-- the pages hold the tree of these elements in these pages, and no other page is in use
pub record Fills (pages : List (Option (List ℕ))) (tree : Tree) (es : List Element) (us : List ℕ) : Type 0 where
  pub holds : Holds (at pages) tree es us
  pub alone : (n : ℕ) → IsSome (at pages n) → IsIn n us

-- the pages hold the tree, and no other page is in use
pub record HoldsTree (pages : PagesView) (tree : Tree) : Type 0 where
  pub es : List Element
  pub us : List ℕ
  pub fills : Fills pages.pages tree es us

-- the store's pages are a closed file of that version with the tree and the records
pub record IsClosed (version : ℕ) (stored : List (List ℕ)) (tail : ℕ) (tree : Tree) (contents : Contents) : Type 0 where
  pub h : Header
  pub es : List Element
  pub us : List ℕ
  pub version_is : h.version ≡ version
  pub clean : IsCleanFile stored tail h tree es us
  pub records : contents_of es ≡ contents

-- sizes within the limits; each page in memory spells a node; over a steady store the pages hold the tree, and where nothing was changed the store has them as they are written
pub record IsTable (t : TableView) : Type 0 where
  pub tree : IsTree t.tree
  pub count : IsTrue t.pages.steady → t.tree.count ≤ t.limit
  pub limit : t.limit ≤ most_records
  pub spelt : AreSpeltIn t.tree.order t.pages
  pub holds : IsTrue t.pages.steady → HoldsTree t.pages t.tree
  pub closed : IsTrue t.pages.steady → t.pages.changed ≡ false → IsClosed second_version t.pages.stored t.pages.tail t.tree (table_contents t)

-- a table of that limit that was not called yet, so that it has told of no fault
pub record IsUncalled (most : ℕ) (t : TableView) : Type 0 where
  pub limit : t.limit ≡ most
  pub no_refusals : t.refusals ≡ 0
  pub no_damages : t.damages ≡ no_damage
  pub no_calls : t.calls ≡ no_calls
