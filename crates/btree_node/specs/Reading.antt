-- What stands at the fixed places of a page, and the first fault of a page.
use Rattle.std.specs.Prelude.{◌≡◌, ℕ, ◌+◌, ◌-◌, ◌*◌, ◌<◌, ◌≤◌, List, [], map, length, take, drop, slice_index, Option, Some, None, IsSome, unwrap_or, ◌==◌, if◌then◌else◌}
use Rattle.std.specs.List.{range_with_len, All}
use Rattle.byteorder.specs.Endian.{big_number}
use Rattle.rec_types.specs.Widths.{key_width}
use Rattle.btree_node.specs.declared.layout.Layout.{Layout}
use Rattle.btree_node.specs.declared.node.Node.{Node}
use Rattle.btree_node.specs.declared.node.NodeKind.{NodeKind}
use Rattle.btree_node.specs.declared.node.NodeKind.TheVariants.{Leaf, Inner}
use Rattle.btree_node.specs.declared.node.NodeFault.{NodeFault}
use Rattle.btree_node.specs.declared.node.NodeFault.TheVariants.{Kind, Count, KeyLength, RecordLength, Order, Son, NotZero}
use Rattle.btree_node.specs.Layout.{second_layout, record_start, place_width, place_start, sons_start}
use Rattle.btree_node.specs.Lists.{Element, Each, Ascends}

-- some bytes of a page
unfoldable pub part : ℕ → ℕ → List ℕ → List ℕ
part at width page = take width (drop at page)

-- a number of some bytes
unfoldable pub number_at : ℕ → ℕ → List ℕ → ℕ
number_at width at page = big_number width (part at width page)

-- the kind that the first byte names
unfoldable pub kind_at : List ℕ → Option NodeKind
kind_at page = if slice_index page 0 == 1 then Some Leaf else (if slice_index page 0 == 2 then Some Inner else None)

-- the number of keys
abbrev pub count_at : List ℕ → ℕ
count_at page = number_at 2 2 page

-- place i
abbrev pub place_at : Layout → List ℕ → ℕ → List ℕ
place_at layout page i = part (place_start layout i) (place_width layout) page

-- the parts of a place
unfoldable pub key_length : List ℕ → ℕ
key_length place = slice_index place 0

unfoldable pub record_length : List ℕ → ℕ
record_length place = slice_index place record_start

unfoldable pub element_in : List ℕ → Element
element_in place = (part 1 (slice_index place 0) place, part (record_start + 1) (slice_index place record_start) place)

unfoldable pub elements_at : Layout → List ℕ → ℕ → List Element
elements_at layout page count = map (λ i. element_in (place_at layout page i)) (range_with_len 0 count)

-- son j
abbrev pub son_at : Layout → ℕ → List ℕ → ℕ → ℕ
son_at layout k page j = number_at 4 (sons_start layout k + 4 * j) page

unfoldable pub sons_at : Layout → ℕ → List ℕ → ℕ → List ℕ
sons_at layout k page count = map (son_at layout k page) (range_with_len 0 count)

-- the sons that a page of a kind with so many keys has
abbrev pub sons_of_kind : NodeKind → Layout → ℕ → List ℕ → ℕ → List ℕ
sons_of_kind Leaf layout k page count = []
sons_of_kind Inner layout k page count = sons_at layout k page (count + 1)

abbrev pub kind_read : List ℕ → NodeKind
kind_read page = unwrap_or (kind_at page) Leaf

-- the node that a page spells, if it spells one
unfoldable pub node_at : Layout → ℕ → List ℕ → Node
node_at layout k page = record {
  kind = kind_read page;
  elements = record { items = elements_at layout page (count_at page) };
  sons = record { items = sons_of_kind (kind_read page) layout k page (count_at page) };
}

-- the tests of a page, one for each fault
pub record KeyLengths (layout : Layout) (page : List ℕ) (count : ℕ) : Type 0 where
  pub some : (i : ℕ) → i < count → 0 < key_length (place_at layout page i)
  pub most : (i : ℕ) → i < count → key_length (place_at layout page i) ≤ key_width

pub record RecordLengths (layout : Layout) (page : List ℕ) (count : ℕ) : Type 0 where
  pub most : (i : ℕ) → i < count → record_length (place_at layout page i) ≤ layout.record_width

-- every byte is zero
abbrev pub IsZero : List ℕ → Type 0
IsZero bytes = Each (λ byte. byte ≡ 0) bytes

-- the bytes that belong to no field are zero: some of the head, those past a key and past a record, the
-- places and the sons that the page does not have, and the rest
pub record PaddingIsZero (layout : Layout) (k : ℕ) (page : List ℕ) (count sons : ℕ) : Type 0 where
  pub second : IsZero (part 1 1 page)
  pub head : IsZero (part 4 4 page)
  pub keys : (i : ℕ) → i < count → IsZero (part (1 + key_length (place_at layout page i)) (key_width - key_length (place_at layout page i)) (place_at layout page i))
  pub records : (i : ℕ) → i < count → IsZero (part (record_start + 1 + record_length (place_at layout page i)) (layout.record_width - record_length (place_at layout page i)) (place_at layout page i))
  pub places : IsZero (part (place_start layout count) (place_width layout * (2 * k - count)) page)
  pub rest : IsZero (drop (sons_start layout k + 4 * sons) page)

-- a place of the second layout that passes all tests of its own: its lengths, and the zeros past its key and its record
pub record IsGoodPlace (place : List ℕ) : Type 0 where
  pub some : 0 < key_length place
  pub most : key_length place ≤ key_width
  pub fits : record_length place ≤ second_layout.record_width
  pub behind_key : IsZero (part (1 + key_length place) (key_width - key_length place) place)
  pub behind_record : IsZero (part (record_start + 1 + record_length place) (second_layout.record_width - record_length place) place)

-- the page passes the test for a fault
unfoldable pub Passes : Layout → ℕ → List ℕ → NodeFault → Type 0
Passes layout k page Kind = IsSome (kind_at page)
Passes layout k page Count = (0 < count_at page) × (count_at page ≤ 2 * k)
Passes layout k page KeyLength = KeyLengths layout page (count_at page)
Passes layout k page RecordLength = RecordLengths layout page (count_at page)
Passes layout k page Order = Ascends (elements_at layout page (count_at page))
Passes layout k page Son = All (λ son. 0 < son) (sons_of_kind (kind_read page) layout k page (count_at page))
Passes layout k page NotZero = PaddingIsZero layout k page (count_at page) (length (sons_of_kind (kind_read page) layout k page (count_at page)))

-- the page passes the tests before that for a fault
abbrev pub PassesBefore : Layout → ℕ → List ℕ → NodeFault → Type 0
PassesBefore layout k page Kind = Unit {0}
PassesBefore layout k page Count = Passes layout k page Kind
PassesBefore layout k page KeyLength = Passes layout k page Kind × Passes layout k page Count
PassesBefore layout k page RecordLength = Passes layout k page Kind × Passes layout k page Count × Passes layout k page KeyLength
PassesBefore layout k page Order = Passes layout k page Kind × Passes layout k page Count × Passes layout k page KeyLength × Passes layout k page RecordLength
PassesBefore layout k page Son = Passes layout k page Kind × Passes layout k page Count × Passes layout k page KeyLength × Passes layout k page RecordLength × Passes layout k page Order
PassesBefore layout k page NotZero = Passes layout k page Kind × Passes layout k page Count × Passes layout k page KeyLength × Passes layout k page RecordLength × Passes layout k page Order × Passes layout k page Son

-- the page fails the test for a fault, and none before it
pub record FirstFaultIn (layout : Layout) (k : ℕ) (page : List ℕ) (fault : NodeFault) : Type 0 where
  pub before : PassesBefore layout k page fault
  pub fails : Passes layout k page fault → ⊥

-- the first fault of a page of order k
abbrev pub FirstFault : List ℕ → ℕ → NodeFault → Type 0
FirstFault page k fault = FirstFaultIn second_layout k page fault
