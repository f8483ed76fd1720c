use Rattle.std.proofs.Common.{rules}
use Rattle.btree_insert.proofs.tree.TreeFaultFromMemory.from.Goals as goal

pub returns : goal.returns
returns c = search rules
