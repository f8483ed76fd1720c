use Rattle.std.proofs.Common.{◌≡◌, ◌+◌, suc, [], take, sym, ◌∙◌, subst, arith}
use Rattle.std.proofs.lemmas.Grind.{common_steps}
use Rattle.std.proofs.lemmas.Map.Lookups.{exact_bytes}
use Rattle.btree_node.specs.Lists.{Each, Below}
use Rattle.btree_node.proofs.ElementOrderLemmas.{Below-flip}
use Rattle.btree_node.proofs.SearchLemmas.{below_to, above_from, found_at}
use Rattle.btree_node.proofs.SpeltPageLemmas.{count_spelt}
use Rattle.btree_node.proofs.spelt.place_in.Goals as goal

pub loop-at-preserved : goal.loop-at-preserved
unfolding Below
loop-at-preserved c =
    let m = c.loop-at.at in
    let next : suc m ≡ m + 1 = omega arith in
    record {
      within = omega arith;
      below = λ node can is. subst (λ n. Each (λ e. Below e.0 c.args.key.now) (take n node.elements.items)) next
          (below_to node.elements.items c.args.key.now m ([], []) can.ascends (omega (arith, count_spelt c.args.k c.args.page.now node c.requires.0 can is))
          (subst (λ k. Below k c.args.key.now) (c.key_in.ensures node ([], []) can is) (sym c.cmp.ensures ∙ c.in-Less.is)));
    }

pub returns-in-Equal-clause-found : goal.returns-in-Equal-clause-found
returns-in-Equal-clause-found c = λ node can is.
    found_at node.elements.items c.args.key.now c.loop-at.at ([], []) can.ascends (omega (arith, count_spelt c.args.k c.args.page.now node c.requires.0 can is))
    (sym (c.key_in.ensures node ([], []) can is) ∙ exact_bytes _ _ (sym c.cmp.ensures ∙ c.in-Equal.is))

pub returns-in-Greater-clause-found : goal.returns-in-Greater-clause-found
returns-in-Greater-clause-found c = λ node can is.
    let low = count_spelt c.args.k c.args.page.now node c.requires.0 can is in
    record {
      within = omega (arith, low);
      below = c.loop-at.invariant.below node can is;
      above = above_from node.elements.items c.args.key.now c.loop-at.at ([], []) can.ascends (omega (arith, low))
          (subst (λ k. Below c.args.key.now k) (c.key_in.ensures node ([], []) can is) (Below-flip _ _ (sym c.cmp.ensures ∙ c.in-Greater.is)));
    }

pub returns-clause-found : goal.returns-clause-found
returns-clause-found c = grind (arith, common_steps)
