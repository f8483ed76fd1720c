use Rattle.std.proofs.Common.{sym, arith}
use Rattle.btree_insert.proofs.BoundLemmas.{high_last, high_next}
use Rattle.btree_insert.proofs.bounds.high_of_son.Goals as goal

pub returns-then-i-elements : goal.returns-then-i-elements
returns-then-i-elements c = sym (high_last c.args.elements.now c.args.i c.args.high.now (omega arith))

pub returns-else-i-elements : goal.returns-else-i-elements
returns-else-i-elements c = sym (high_next c.args.elements.now c.args.i c.index-elements-i.result c.args.high.now (omega arith))
