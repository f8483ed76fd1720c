-- One page in memory that is changed where it lies.
use Rattle.std.specs.Prelude.{◌≡◌, ℕ, List, Option, Some, slice_set}
use Rattle.page_store.specs.PageMap.{at, write_page}
use Rattle.btree_node.specs.Changes.{MayChange, ChangedBy}
use Rattle.btree_node.specs.declared.page_change.PageChange.{PageChange}

-- page n may be changed so
abbrev pub MayChangeAt : ℕ → ℕ → PageChange → List (Option (List ℕ)) → Type 0
MayChangeAt k n change pages = (page : List ℕ) → at pages n ≡ Some page → MayChange k change page

-- what page n may become by the change
abbrev pub BecomesAt : ℕ → ℕ → PageChange → List (Option (List ℕ)) → List ℕ → Type 0
BecomesAt k n change pages page = (was : List ℕ) → at pages n ≡ Some was → ChangedBy k change was page

-- slot n has another page now, as the change makes it
pub record ChangesSlot (k n : ℕ) (change : PageChange) (old new : List (Option (List ℕ))) : Type 0 where
  pub page : List ℕ
  pub changed : BecomesAt k n change old page
  pub slots : new ≡ slice_set old n (Some page)

-- page n is another page now, as the change makes it, and no other page changed
pub record ChangesPage (k n : ℕ) (change : PageChange) (old new : List (Option (List ℕ))) : Type 0 where
  pub page : List ℕ
  pub changed : BecomesAt k n change old page
  pub pages : (q : ℕ) → at new q ≡ write_page (at old) n page q
