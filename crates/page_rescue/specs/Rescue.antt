-- What is saved of the pages of a file that may be damaged.
use Rattle.std.specs.Prelude.{◌≡◌, ◌⊎◌, ℕ, ◌<◌, List, length, Some, IsSome, IsTrue, slice_get, slice_index_or}
use Rattle.std.specs.FinMap.{get, entries}
use Rattle.rec_types.specs.Contents.{Contents}
use Rattle.btree_node.specs.Lists.{Element}
use Rattle.btree_node.specs.declared.node.Node.{Node}
use Rattle.page_looks.specs.Spelt.{PageSpells}
use Rattle.page_rescue.specs.declared.rescue.Rescued.{Rescued}

-- the record stands at the key among the elements
abbrev pub IsAmong : List Element → List ℕ → List ℕ → Type 0
IsAmong es key value = (i : ℕ) × (i < length es) × ((d : Element) → slice_index_or es i d ≡ (key, value))

-- the key and the record are these
abbrev pub Is : List ℕ → List ℕ → List ℕ → List ℕ → Type 0
Is key value k v = (k ≡ key) × (v ≡ value)

-- each key of the elements has a record
abbrev pub HasKeys : Contents → List Element → Type 0
HasKeys contents es = (i : ℕ) → i < length es → (d : Element) → IsSome (get contents (slice_index_or es i d).0)

-- contents that grew: what stood at a key still does, and what is new comes from there
pub record GrowsBy (From : List ℕ → List ℕ → Type 0) (old new : Contents) : Type 0 where
  pub stays : (key value : List ℕ) → get old key ≡ Some value → get new key ≡ Some value
  pub only : (key value : List ℕ) → get new key ≡ Some value → (get old key ≡ Some value) ⊎ From key value

-- the record at the key stands in the page
abbrev pub IsInPage : List ℕ → List ℕ → List ℕ → Type 0
IsInPage page key value = (node : Node) × PageSpells page node × IsAmong node.elements.items key value

-- if the page is whole, each of its keys has a record
abbrev pub HasPage : Contents → List ℕ → Type 0
HasPage contents page = (other : Node) → PageSpells page other → (node : Node) × PageSpells page node × HasKeys contents node.elements.items

-- the record at the key stands in a page
abbrev pub IsInPages : List (List ℕ) → List ℕ → List ℕ → Type 0
IsInPages pages key value = (n : ℕ) × (page : List ℕ) × (slice_get pages n ≡ Some page) × IsInPage page key value

-- each key of page n, where it is whole, has a record
abbrev pub HasPageAt : ℕ → Contents → List (List ℕ) → Type 0
HasPageAt n contents pages = (page : List ℕ) → slice_get pages n ≡ Some page → HasPage contents page

-- so have those of the pages below a number
abbrev pub HasPagesBelow : ℕ → Contents → List (List ℕ) → Type 0
HasPagesBelow count contents pages = (n : ℕ) → n < count → HasPageAt n contents pages

-- What is saved of the first pages: each record stands in a whole page, and each key of each whole page has one, unless a
-- page couldn't be read.
pub record SavesBelow (count : ℕ) (pages : List (List ℕ)) (saved : Rescued) : Type 0 where
  pub contents : Contents
  pub records : saved.records.items ≡ entries contents
  pub only : (key value : List ℕ) → get contents key ≡ Some value → IsInPages pages key value
  pub all : IsTrue saved.complete → HasPagesBelow count contents pages

-- what is saved of all pages
abbrev pub Saves : List (List ℕ) → Rescued → Type 0
Saves pages saved = SavesBelow (length pages) pages saved
