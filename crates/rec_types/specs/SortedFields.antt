-- How a sorted table lies in its fields.
use Rattle.std.specs.Prelude.{◌≤◌, length, IsTrue}
use Rattle.std.specs.FinMap as maps
use Rattle.std.specs.List.{IsDistinct}
use Rattle.std.specs.Map.{keys_of}
use Rattle.rec_types.specs.KeyOrder.{IsOrderOfFirst}
use Rattle.rec_types.specs.LimitBounds.{most_records}
use Rattle.rec_types.specs.Sorted.{SortedState, same_bytes}
use Rattle.rec_types.specs.declared.sorted_table.SortedTable.TheInside.{Inside}

abbrev pub state_of : Inside → SortedState
state_of t = record { contents = maps.from_entries t.records; limit = t.limit; refusals = t.refusals; calls = t.calls }

pub record IsSortedTable (t : Inside) : Type 0 where
  pub unique : IsDistinct same_bytes (keys_of t.records)
  pub within : length t.records ≤ t.limit
  pub limited : t.limit ≤ most_records
  pub ordered : IsTrue t.in_order → IsOrderOfFirst (keys_of t.records) t.places.items
