use Rattle.std.proofs.Common.{rules}
use Rattle.btree_insert.proofs.insert_below.was_visited.Goals as goal

pub returns : goal.returns
returns c = search rules
