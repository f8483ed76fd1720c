use Rattle.std.proofs.Common.{◌+◌, ◌*◌, length}
use Rattle.btree_insert.proofs.walking.+walking.Given as goal

abbrev pub decreases-tell_below : goal.decreases-tell_below
decreases-tell_below g l = 100 * l.above.now.height

abbrev pub decreases-tell_sons : goal.decreases-tell_sons
decreases-tell_sons g l = 100 * l.above.now.height + (1 + length l.sons.now)
