use Rattle.std.proofs.Common.{rules, arith}
use Rattle.std.proofs.lemmas.Bool.{false≢true}
use Rattle.btree_node.proofs.ElementOrderLemmas.{Ascends-more}
use Rattle.recfile_tests.proofs.nodes.ascends.Goals as goal

pub returns-then-not-is_below : goal.returns-then-not-is_below
returns-then-not-is_below c = λ e. absurd (false≢true e)

pub loop-i-preserved : goal.loop-i-preserved
loop-i-preserved c =
    Ascends-more c.args.elements.now c.loop-i.i c.index-elements-i.result c.index-elements-i-in-loop-i.result (omega arith) (omega arith)
    c.loop-i.invariant
    (c.is_below.ensures c.if-not-is_below.false)

pub loop-i-init : goal.loop-i-init
loop-i-init c = search rules
