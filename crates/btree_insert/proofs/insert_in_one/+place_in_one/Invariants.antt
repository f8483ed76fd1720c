use Rattle.btree_insert.proofs.insert_in_one.+place_in_one.Given as goal

abbrev pub decreases-place_in_one : goal.decreases-place_in_one
decreases-place_in_one g l = l.spot.now.level
