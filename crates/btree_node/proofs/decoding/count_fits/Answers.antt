use Rattle.std.proofs.Common.{rules}
use Rattle.btree_node.proofs.decoding.count_fits.Goals as goal

pub returns-then-count-gt0 : goal.returns-then-count-gt0
returns-then-count-gt0 c = search rules
