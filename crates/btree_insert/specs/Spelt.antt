-- What the pages in memory spell.
use Rattle.std.specs.Prelude.{◌≡◌, ℕ, Bool, true, List, Some, IsTrue}
use Rattle.page_store.specs.PageMap.{at}
use Rattle.page_store.specs.PagesView.{PagesView, is_in_memory}
use Rattle.page_store.specs.ChangedPage.{MayChangeAt}
use Rattle.btree_node.specs.declared.page_change.PageChange.{PageChange}
use Rattle.btree_node.specs.Changes.{ChangedBy}
use Rattle.btree_node.specs.Spelling.{IsSpelt}
use Rattle.btree_insert.specs.Sizes.{IsTree}
use Rattle.btree_insert.specs.declared.tree.Tree.{Tree}

-- each page that is in memory spells a node of the order
abbrev pub AreSpeltIn : ℕ → PagesView → Type 0
AreSpeltIn k pages = (n : ℕ) (page : List ℕ) → is_in_memory pages n ≡ true → at pages.pages n ≡ Some page → IsSpelt k page

-- a tree within the limits, of whose pages those in memory spell nodes
abbrev pub IsSpeltTree : Tree → PagesView → Type 0
IsSpeltTree tree pages = IsTree tree × AreSpeltIn tree.order pages

-- the same where its pages in memory are searched in place
abbrev pub IsTreeIn : Bool → Tree → PagesView → Type 0
IsTreeIn in_place tree pages = IsTree tree × (IsTrue in_place → AreSpeltIn tree.order pages)

-- page n, where it lies in memory, may be changed so, and then spells a node too
pub record CanChange (k : ℕ) (pages : PagesView) (n : ℕ) (change : PageChange) : Type 0 where
  pub may : is_in_memory pages n ≡ true → MayChangeAt k n change pages.pages
  pub spelt : is_in_memory pages n ≡ true → (was page : List ℕ) → at pages.pages n ≡ Some was → ChangedBy k change was page → IsSpelt k page
