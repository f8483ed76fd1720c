use Rattle.std.proofs.Common.{◌+◌, ◌*◌}
use Rattle.btree_delete.proofs.deletion.delete_below.+shrinking.Given as goal

abbrev pub decreases-delete_here : goal.decreases-delete_here
decreases-delete_here g l = 2 * l.tree.now.height

abbrev pub decreases-delete_below : goal.decreases-delete_below
decreases-delete_below g l = 2 * l.tree.now.height + 1
