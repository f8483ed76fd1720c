use Rattle.std.proofs.Common.{rules}
use Rattle.btree_insert.proofs.inserting.insert.Goals as goal

pub insert_from_root-requires : goal.insert_from_root-requires
insert_from_root-requires g c = (c.requires.tree, search rules)
