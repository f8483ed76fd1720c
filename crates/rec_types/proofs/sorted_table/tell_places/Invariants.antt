use Rattle.std.proofs.Common.{map, take}
use Rattle.rec_types.specs.Sorted.{pair_at}
use Rattle.rec_types.proofs.sorted_table.tell_places.Given as goal

-- the pairs so far
abbrev pub invariant-loop-place : goal.invariant-loop-place
invariant-loop-place g l = g.K.RecordSink.told l.initial.sink l.initial.out (map (pair_at l.records) (take l.place-index l.places)) l.sink l.out
