use Rattle.btree_insert.proofs.finding.+find_below.Given as goal

abbrev pub decreases-find_below : goal.decreases-find_below
decreases-find_below g l = l.spot.now.level
