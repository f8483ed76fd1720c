use Rattle.std.proofs.Common.{[], refl, arith}
use Rattle.btree_load.proofs.TreeLemmas.{next_level, less_left}
use Rattle.btree_load.proofs.filling.page_total.Goals as goal

pub loop-left-preserved : goal.loop-left-preserved
loop-left-preserved c = record {
  width = refl;
  levels = next_level c.args.k c.args.records c.loop-left.left c.loop-left.pages c.loop-left-test.true c.loop-left.invariant.levels;
  most = omega (arith, less_left c.args.k c.loop-left.left c.requires.order.0 c.loop-left-test.true, c.loop-left.invariant.most);
}

pub returns-clause-levels : goal.returns-clause-levels
returns-clause-levels c =
    let all = c.loop-left.invariant.levels [] (omega (arith, c.loop-left-test.false)) in
    (all.0, all.1, omega (arith, all.2))
