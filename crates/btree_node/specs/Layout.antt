-- Where the parts of a node page stand.
use Rattle.std.specs.Prelude.{◌≡◌, ◌⊎◌, ℕ, ◌+◌, ◌*◌, ◌≤◌, ◌==◌, if◌then◌else◌}
use Rattle.rec_types.specs.Widths.{key_width, widest_record}
use Rattle.btree_node.specs.declared.layout.Layout.{Layout}

-- the bytes that a record may take in the first file version
abbrev pub first_record_width : ℕ
first_record_width = 32

-- the layout of the first file version
abbrev pub first_layout : Layout
first_layout = record { record_width = first_record_width }

-- the layout of the second file version, which is the one that is written
abbrev pub second_layout : Layout
second_layout = record { record_width = widest_record }

-- the numbers of the file versions
abbrev pub first_version : ℕ
first_version = 1

abbrev pub second_version : ℕ
second_version = 2

-- a version whose files are opened
abbrev pub IsVersion : ℕ → Type 0
IsVersion version = (version ≡ first_version) ⊎ (version ≡ second_version)

-- the layout of the node pages of a file of that version
abbrev pub layout_of : ℕ → Layout
layout_of version = if version == first_version then first_layout else second_layout

-- the greatest order of a tree: a page of it has room for its places and sons
abbrev pub greatest_order : ℕ
greatest_order = 16

-- an order whose pages have room for their places and sons
abbrev pub IsSmallOrder : ℕ → Type 0
IsSmallOrder k = k ≤ greatest_order

-- the most keys of a page, of any order
abbrev pub most_keys : ℕ
most_keys = 2 * greatest_order

-- as many keys as a page of some order may have
abbrev pub IsKeyCount : ℕ → Type 0
IsKeyCount count = count ≤ most_keys

-- an order that a tree can have
abbrev pub IsOrder : ℕ → Type 0
IsOrder k = (1 ≤ k) × (k ≤ greatest_order)

-- the bytes before the first place
abbrev pub head_width : ℕ
head_width = 8

-- a layout whose records take no more bytes than any record may
abbrev pub IsNarrow : Layout → Type 0
IsNarrow layout = layout.record_width ≤ widest_record

-- a page of the layout has room for so many keys
abbrev pub CanHoldKeys : Layout → ℕ → Type 0
CanHoldKeys layout count = IsNarrow layout × IsKeyCount count

-- it has room for the places and sons of order k
abbrev pub CanHoldOrder : Layout → ℕ → Type 0
CanHoldOrder layout k = IsNarrow layout × IsSmallOrder k

-- it has room for so many sons behind the places of order k
abbrev pub CanHoldSons : Layout → ℕ → ℕ → Type 0
CanHoldSons layout k count = IsNarrow layout × IsSmallOrder k × (count ≤ most_keys + 1)

-- where the record's length stands in a place, behind the key's length and the key
abbrev pub record_start : ℕ
record_start = 1 + key_width

-- the bytes of a place: a key and a record, each behind its length
abbrev pub place_width : Layout → ℕ
place_width layout = record_start + 1 + layout.record_width

-- where place i begins
abbrev pub place_start : Layout → ℕ → ℕ
place_start layout i = head_width + place_width layout * i

-- the sons follow the places of a full page
abbrev pub sons_start : Layout → ℕ → ℕ
sons_start layout k = place_start layout (2 * k)
