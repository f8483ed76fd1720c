-- Pages that are kept in memory as they were read.
use Rattle.std.specs.Prelude.{◌≡◌, ℕ, List, Option, Some, slice_get}
use Rattle.page_store.specs.PageMap.{at}
use Rattle.btree_node.specs.Spelling.{IsSpelt}

-- the order of the nodes that they spell, and the pages at their numbers
pub record KeptPages : Type 0 where
  pub order : ℕ
  pub slots : List (Option (List ℕ))

-- each of them spells a node of the order
abbrev pub SlotsAreSpelt : ℕ → List (Option (List ℕ)) → Type 0
SlotsAreSpelt order slots = (n : ℕ) (page : List ℕ) → at slots n ≡ Some page → IsSpelt order page

-- each of them is the page of that number
abbrev pub AreOf : List (List ℕ) → List (Option (List ℕ)) → Type 0
AreOf stored slots = (n : ℕ) (page : List ℕ) → at slots n ≡ Some page → slice_get stored n ≡ Some page
