use Rattle.std.proofs.Common.{◌<◌, ap, sym, subst, ◌∙◌, length, arith}
use Rattle.std.specs.List.{All}
use Rattle.btree_node.specs.Layout.{second_layout}
use Rattle.btree_node.specs.Lists.{Ascends}
use Rattle.btree_node.proofs.QuickPassLemmas.{Accepted, passes_before, passes_last}
use Rattle.btree_node.proofs.SpellingLemmas.{length-sons}
use Rattle.btree_node.proofs.read_first.read_first.Goals as goal

pub rest_is_zero-requires-clause-room : goal.rest_is_zero-requires-clause-room
rest_is_zero-requires-clause-room c =
    let fits = c.count_fits.ensures.0 c.if-not-count_fits.false in
    (omega arith, c.requires.1, omega (arith, c.requires.1, fits.1, c.len.ensures.value, ap length c.fill_sons.ensures, length-sons c.in-Some.kind second_layout c.args.k c.args.page.now c.count_of-count.result))

-- what was found on the way
module _ (c : goal.After-rest_is_zero) where
  found : Accepted c.args.k c.args.page.now c.in-Some.kind c.count_of-count.result
  found =
      let fits = c.count_fits.ensures.0 c.if-not-count_fits.false in
      record {
        kind_is = sym c.kind_of.ensures ∙ c.in-Some.is;
        count_is = c.count_of-count.ensures;
        some = fits.0;
        most = fits.1;
        good = c.fill_elements.ensures.good c.if-not-fill_elements.false;
        ascends = subst Ascends (c.fill_elements.ensures.items c.if-not-fill_elements.false) (c.fill_elements.ensures.ascends c.if-not-fill_elements.false);
        sons = subst (All (λ son. 0 < son)) (c.as_slice.ensures.value ∙ c.fill_sons.ensures) (c.sons_stand.ensures.0 c.if-sons_stand.true);
      }

pub returns-then-sons_stand-clause-before : goal.returns-then-sons_stand-clause-before
returns-then-sons_stand-clause-before c = λ _. passes_before c.args.k c.args.page.now c.in-Some.kind c.count_of-count.result (found c)

pub returns-then-sons_stand-clause-padding : goal.returns-then-sons_stand-clause-padding
returns-then-sons_stand-clause-padding c = λ zero.
    passes_last c.args.k c.args.page.now c.in-Some.kind c.count_of-count.result c.len.result (found c)
    (c.len.ensures.value ∙ ap length c.fill_sons.ensures)
    (c.head_is_zero.ensures.second c.if-not-head_is_zero.false) (c.head_is_zero.ensures.head c.if-not-head_is_zero.false)
    (c.rest_is_zero.ensures.places zero) (c.rest_is_zero.ensures.rest zero)
