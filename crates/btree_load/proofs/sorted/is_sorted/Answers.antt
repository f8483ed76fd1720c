use Rattle.std.proofs.Common.{rules, arith, sym, ◌∙◌}
use Rattle.std.proofs.lemmas.Grind.{common_steps}
use Rattle.std.proofs.lemmas.Bool.{false≢true}
use Rattle.btree_node.proofs.ElementOrderLemmas.{Ascends-more, Ascends-neighbours}
use Rattle.btree_load.proofs.sorted.is_sorted.Goals as goal

pub returns-then-not-is_below : goal.returns-then-not-is_below
returns-then-not-is_below c = (
  λ e. absurd (false≢true e),
  λ up. absurd (false≢true (sym c.if-not-is_below.true ∙ c.is_below.ensures.1 (Ascends-neighbours c.args.records.now c.loop-i.i c.index-records-i.result c.index-records-i-in-loop-i.result (omega arith) (omega arith) up))),
)

pub loop-i-preserved : goal.loop-i-preserved
loop-i-preserved c = Ascends-more c.args.records.now c.loop-i.i c.index-records-i.result c.index-records-i-in-loop-i.result (omega arith) (omega arith) c.loop-i.invariant (c.is_below.ensures.0 c.if-not-is_below.false)

pub loop-i-init : goal.loop-i-init
loop-i-init c = search rules

pub returns : goal.returns
returns c = grind (arith, common_steps)
