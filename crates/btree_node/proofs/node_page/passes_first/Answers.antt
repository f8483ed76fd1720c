use Rattle.std.proofs.Common.{◌<◌, sym, subst, ◌∙◌}
use Rattle.std.specs.List.{All}
use Rattle.btree_node.proofs.QuickPassLemmas.{Accepted, passes_before, passes_last}
use Rattle.btree_node.proofs.NodePageLemmas.{sons_counted}
use Rattle.btree_node.proofs.node_page.passes_first.Goals as goal

-- what was found on the way
module _ (c : goal.After-rest_is_zero) where
  found : Accepted c.args.k c.args.page.now c.in-Some.kind c.count_of-count.result
  found =
      let fits = c.count_fits.ensures.0 c.if-not-count_fits.false in
      record {
        kind_is = sym c.kind_of.ensures ∙ c.in-Some.is;
        count_is = c.count_of-count.ensures;
        some = fits.0;
        most = fits.1;
        good = c.places_are_good.ensures.good c.if-not-places_are_good.false;
        ascends = c.places_are_good.ensures.ascends c.if-not-places_are_good.false;
        sons = subst (All (λ son. 0 < son)) (sym (c.son_count-sons.ensures.sons c.args.k c.args.page.now)) (c.sons_are_set.ensures c.if-sons_are_set.true);
      }

pub returns-then-sons_are_set-clause-before : goal.returns-then-sons_are_set-clause-before
returns-then-sons_are_set-clause-before c = λ _. passes_before c.args.k c.args.page.now c.in-Some.kind c.count_of-count.result (found c)

pub returns-then-sons_are_set-clause-padding : goal.returns-then-sons_are_set-clause-padding
returns-then-sons_are_set-clause-padding c = λ zero.
    passes_last c.args.k c.args.page.now c.in-Some.kind c.count_of-count.result c.son_count-sons.result (found c)
    (sons_counted c.in-Some.kind c.args.k c.args.page.now c.count_of-count.result c.son_count-sons.result (c.son_count-sons.ensures.sons c.args.k c.args.page.now))
    (c.head_is_zero.ensures.second c.if-not-head_is_zero.false) (c.head_is_zero.ensures.head c.if-not-head_is_zero.false)
    (c.rest_is_zero.ensures.places zero) (c.rest_is_zero.ensures.rest zero)
