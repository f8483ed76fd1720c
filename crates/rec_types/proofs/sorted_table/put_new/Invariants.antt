use Rattle.std.proofs.Common.{◌-◌, length}
use Rattle.rec_types.specs.KeyOrder.{IsOrderOfFirst}
use Rattle.rec_types.proofs.sorted_table.put_new.Given as goal

-- those of the first keys are in order
abbrev pub invariant-loop-places : goal.invariant-loop-places
invariant-loop-places l = IsOrderOfFirst l.keys l.places.items

abbrev pub decreases-loop-places : goal.decreases-loop-places
decreases-loop-places l = length l.keys - length l.places.items
