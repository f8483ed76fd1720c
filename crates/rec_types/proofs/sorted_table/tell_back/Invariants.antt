use Rattle.std.proofs.Common.{◌≤◌, length, map, drop, reverse}
use Rattle.rec_types.specs.Sorted.{pair_at}
use Rattle.rec_types.proofs.sorted_table.tell_back.Given as goal

-- the last pairs were told, the last first
abbrev pub invariant-loop-at : goal.invariant-loop-at
invariant-loop-at g l = record {
  within : l.at ≤ length l.places;
  told : g.K.RecordSink.told l.initial.sink l.initial.out (reverse (map (pair_at l.records) (drop l.at l.places))) l.sink l.out;
}

abbrev pub decreases-loop-at : goal.decreases-loop-at
decreases-loop-at g l = l.at
