use Rattle.btree_insert.proofs.beside.+leaf_by_bytes.Given as goal

abbrev pub decreases-leaf_by_bytes : goal.decreases-leaf_by_bytes
decreases-leaf_by_bytes g l = l.spot.now.level
