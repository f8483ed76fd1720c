use Rattle.btree_delete.proofs.deletion.delete_in_one.+find_in_one.Given as goal

abbrev pub decreases-find_in_one : goal.decreases-find_in_one
decreases-find_in_one g l = l.spot.now.level
