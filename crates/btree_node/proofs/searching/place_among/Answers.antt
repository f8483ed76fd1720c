use Rattle.std.proofs.Common.{◌≡◌, ◌+◌, ◌-◌, ◌/◌, suc, take, sym, ◌∙◌, subst, arith}
use Rattle.std.proofs.lemmas.Grind.{common_steps}
use Rattle.std.proofs.lemmas.Map.Lookups.{exact_bytes}
use Rattle.btree_node.specs.Lists.{Each, Below}
use Rattle.btree_node.proofs.ElementOrderLemmas.{Below-flip}
use Rattle.btree_node.proofs.SearchLemmas.{below_to, above_from, found_at}
use Rattle.btree_node.proofs.searching.place_among.Goals as goal

pub loop-low-preserved-in-Less : goal.loop-low-preserved-in-Less
unfolding Below
loop-low-preserved-in-Less c =
    let m = c.loop-low.low + (c.loop-low.high - c.loop-low.low) / 2 in
    let next : suc m ≡ m + 1 = omega arith in
    record {
      within = c.loop-low.invariant.within;
      order = omega arith;
      below = λ up. subst (λ n. Each (λ e. Below e.0 c.args.key.now) (take n c.args.elements.now)) next
          (below_to c.args.elements.now c.args.key.now m c.index-elements-middle.result up (omega arith) (sym c.cmp.ensures ∙ c.in-Less.is));
      above = c.loop-low.invariant.above;
    }

pub returns-in-Equal-clause-found : goal.returns-in-Equal-clause-found
returns-in-Equal-clause-found c = λ up.
    found_at c.args.elements.now c.args.key.now _ c.index-elements-middle.result up (omega arith) (exact_bytes _ _ (sym c.cmp.ensures ∙ c.in-Equal.is))

pub loop-low-preserved : goal.loop-low-preserved
loop-low-preserved c =
    let m = c.loop-low.low + (c.loop-low.high - c.loop-low.low) / 2 in
    record {
      within = omega arith;
      order = omega arith;
      below = c.loop-low.invariant.below;
      above = λ up. above_from c.args.elements.now c.args.key.now m c.index-elements-middle.result up (omega arith) (Below-flip _ _ (sym c.cmp.ensures ∙ c.in-Greater.is));
    }

pub loop-low-init : goal.loop-low-init
loop-low-init c = grind (arith, common_steps)

pub returns-clause-found : goal.returns-clause-found
returns-clause-found c = grind (arith, common_steps)
