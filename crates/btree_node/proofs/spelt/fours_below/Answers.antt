use Rattle.std.proofs.Common.{◌≡◌, ◌+◌, suc, [], take, subst, arith}
use Rattle.btree_node.specs.Lists.{Each, Below}
use Rattle.btree_node.proofs.SearchLemmas.{below_to}
use Rattle.btree_node.proofs.SpeltPageLemmas.{count_spelt}
use Rattle.btree_node.proofs.spelt.fours_below.Goals as goal

pub loop-at-preserved : goal.loop-at-preserved
loop-at-preserved c =
    let m = c.loop-at.at + 3 in
    let next : suc m ≡ c.loop-at.at + 4 = omega arith in
    record {
      within = omega arith;
      below = λ node can is. subst (λ n. Each (λ e. Below e.0 c.args.key.now) (take n node.elements.items)) next
          (below_to node.elements.items c.args.key.now m ([], []) can.ascends (omega (arith, count_spelt c.args.k c.args.page.now node c.requires.0 can is))
          (subst (λ k. Below k c.args.key.now) (c.key_in.ensures node ([], []) can is) (c.is_below.ensures.0 c.if-is_below.true)));
    }
