use Rattle.std.proofs.Common.{refl, length, arith}
use Rattle.std.proofs.lemmas.Bool.Decides.{nat_tests}
use Rattle.btree_node.proofs.ElementOrderLemmas.{ascends_last}
use Rattle.btree_node.proofs.read_first.may_follow.Goals as goal

pub returns-else-len-eq0 : goal.returns-else-len-eq0
returns-else-len-eq0 c = λ below value.
    ascends_last c.args.elements.now (length c.args.elements.now) c.index-elements-len.result (c.args.key.now, value) (grind (arith, nat_tests)) refl c.requires (c.is_below.ensures.0 below)
