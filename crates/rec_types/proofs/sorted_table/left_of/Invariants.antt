use Rattle.std.proofs.Common.{◌-◌, ◌≡◌, ◌<◌, ◌≤◌, length, get_or, true, false}
use Rattle.rec_types.specs.KeyOrder.{key_at}
use Rattle.rec_types.specs.Ordered.{is_left}
use Rattle.rec_types.proofs.sorted_table.left_of.Given as goal

-- the gap is between the two
abbrev pub invariant-loop-low : goal.invariant-loop-low
invariant-loop-low l = record {
  order : l.low ≤ l.high;
  within : l.high ≤ length l.places;
  left : 0 < l.low → is_left l.gap (key_at l.keys (get_or l.places (l.low - 1) 0)) ≡ true;
  right : l.high < length l.places → is_left l.gap (key_at l.keys (get_or l.places l.high 0)) ≡ false;
}

abbrev pub decreases-loop-low : goal.decreases-loop-low
decreases-loop-low l = l.high - l.low
