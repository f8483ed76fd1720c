-- How a compact map lies in its fields.
use Rattle.std.specs.Prelude.{◌≤◌, length, vec_capacity}
use Rattle.std.specs.List.{IsDistinct}
use Rattle.std.specs.Map.{keys_of}
use Rattle.rec_types.specs.Sorted.{Pairs, same_bytes}
use Rattle.rec_types.specs.Slots.{AreInPlace, pairs_in, slot_at}
use Rattle.rec_types.specs.declared.compact_map.CompactMap.TheInside.{Inside}

abbrev pub compact_pairs_of : Inside → Pairs
compact_pairs_of m = pairs_in m.slots.entries m.long.items

-- there is room for one long record for each key, so that a record put at a key that is there takes no memory
pub record IsCompact (m : Inside) : Type 0 where
  pub unique : IsDistinct same_bytes (keys_of m.slots.entries)
  pub in_place : AreInPlace (slot_at m.slots.entries) m.long.items
  pub room : length m.slots.entries ≤ vec_capacity m.long
