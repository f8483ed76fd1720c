use Rattle.std.proofs.Common.{rules}
use Rattle.btree_insert.proofs.bounds.bounds_of_son.Goals as goal

pub returns : goal.returns
returns c = search rules
