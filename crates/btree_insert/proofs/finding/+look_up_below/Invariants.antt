use Rattle.btree_insert.proofs.finding.+look_up_below.Given as goal

abbrev pub decreases-look_up_below : goal.decreases-look_up_below
decreases-look_up_below g l = l.spot.now.level
