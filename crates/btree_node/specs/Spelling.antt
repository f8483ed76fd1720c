-- Which node a page spells.
use Rattle.std.specs.Prelude.{◌≡◌, ℕ, ◌+◌, ◌*◌, ◌^◌, ◌<◌, ◌≤◌, List, [], ◌∷◌, ◌++◌, length}
use Rattle.std.specs.List.{flat_map}
use Rattle.byteorder.specs.Endian.{big_bytes}
use Rattle.rec_types.specs.Padded.{padded}
use Rattle.rec_types.specs.Widths.{key_width, page_width}
use Rattle.btree_node.specs.declared.layout.Layout.{Layout}
use Rattle.btree_node.specs.declared.node.Node.{Node}
use Rattle.btree_node.specs.declared.node.NodeKind.{NodeKind}
use Rattle.btree_node.specs.declared.node.NodeKind.TheVariants.{Leaf, Inner}
use Rattle.btree_node.specs.Layout.{second_layout, sons_start, IsSmallOrder}
use Rattle.btree_node.specs.Lists.{Element, Each, Ascends}

-- the bytes behind their number, padded to a width
unfoldable pub field : ℕ → List ℕ → List ℕ
field width bytes = length bytes ∷ padded width bytes

-- a place: the key, then the record
unfoldable pub place : Layout → Element → List ℕ
place layout e = field key_width e.0 ++ field layout.record_width e.1

abbrev pub kind_byte : NodeKind → ℕ
kind_byte Leaf = 1
kind_byte Inner = 2

-- the kind, a zero, the number of keys in two bytes, four zeros
unfoldable pub head : NodeKind → ℕ → List ℕ
head kind count = kind_byte kind ∷ 0 ∷ (big_bytes 2 count ++ (0 ∷ 0 ∷ 0 ∷ 0 ∷ []))

-- the sons, four bytes each
unfoldable pub sons_bytes : List ℕ → List ℕ
sons_bytes = flat_map (big_bytes 4)

-- the head and the places, padded to the place of the sons, then the sons, padded to a page
unfoldable pub spelling_in : Layout → Node → ℕ → List ℕ
spelling_in layout n k =
    padded page_width (padded (sons_start layout k) (head n.kind (length n.elements.items) ++ flat_map (place layout) n.elements.items) ++ sons_bytes n.sons.items)

-- the one page that spells a node of order k
abbrev pub spelling : Node → ℕ → List ℕ
spelling n k = spelling_in second_layout n k

-- a key of 1 byte to the bytes that it may take, and a record that the layout has room for
pub record ElementFits (layout : Layout) (e : Element) : Type 0 where
  pub key_some : 0 < length e.0
  pub key_most : length e.0 ≤ key_width
  pub record_most : length e.1 ≤ layout.record_width

-- the same in a page that is written
abbrev pub IsElement : Element → Type 0
IsElement = ElementFits second_layout

-- a page number of four bytes that is not 0
pub record IsSon (s : ℕ) : Type 0 where
  pub some : 0 < s
  pub most : s < 2 ^ 32

-- a leaf has no sons, an inner node one more than keys
abbrev pub SonsFit : NodeKind → ℕ → List ℕ → Type 0
SonsFit Leaf count sons = sons ≡ []
SonsFit Inner count sons = (length sons ≡ count + 1) × Each IsSon sons

-- a node that a page of a layout can hold, of order k
pub record CanStandIn (layout : Layout) (n : Node) (k : ℕ) : Type 0 where
  pub some : 0 < length n.elements.items
  pub most : length n.elements.items ≤ 2 * k
  pub fit : Each (ElementFits layout) n.elements.items
  pub ascends : Ascends n.elements.items
  pub sons : SonsFit n.kind (length n.elements.items) n.sons.items

-- a node that a page of order k can hold: 1 to 2k ascending keys, with sons if it is an inner one
abbrev pub CanStand : Node → ℕ → Type 0
CanStand n k = CanStandIn second_layout n k

-- the page spells some node of the order
abbrev pub IsSpelt : ℕ → List ℕ → Type 0
IsSpelt k page = (node : Node) × CanStand node k × (page ≡ spelling node k)

-- a page of a tree of order k that spells a node
abbrev pub IsNodePage : ℕ → List ℕ → Type 0
IsNodePage k page = IsSmallOrder k × IsSpelt k page

-- each page that is written spells a node of the order
abbrev pub AreSpelt : ℕ → List (ℕ × List ℕ) → Type 0
AreSpelt k writes = Each (λ w. IsSpelt k w.1) writes
