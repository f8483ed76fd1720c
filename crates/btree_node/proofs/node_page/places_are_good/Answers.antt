use Rattle.std.proofs.Common.{ℕ, List, refl, ap, subst, ◌∙◌, slice_index, arith}
use Rattle.btree_node.specs.Reading.{element_in, IsGoodPlace}
use Rattle.btree_node.proofs.QuickPassLemmas.{good_place}
use Rattle.btree_node.proofs.NodePageLemmas.{tested_none, tested_more, key_is}
use Rattle.btree_node.proofs.node_page.places_are_good.Goals as goal
use Rattle.btree_node.proofs.node_page.places_are_good.Goals.{else-i-gt0-via-then-i-gt0+else-not-is_below, else-i-gt0-via-else-i-gt0}

pub loop-i-init : goal.loop-i-init
loop-i-init c = tested_none c.args.page.now c.default-last.result

-- one good place more
pub loop-i-preserved : goal.loop-i-preserved
loop-i-preserved c =
    let place = c.place_of_page-place.result.now in
    let place_is = c.place_of_page-place.ensures.value in
    let key_fits = c.in-Some.ensures.some.0 refl in
    let value_fits = c.is_in_field.ensures.0 c.if-not-is_in_field.false in
    let good : IsGoodPlace place =
    good_place place c.sixteen.result c.a_hundred.result (slice_index place 0) (slice_index place 17) c.place_of_page-place.ensures.len c.sixteen.ensures c.a_hundred.ensures refl refl key_fits value_fits in
    let key = key_is place c.sixteen.result c.in-Some.key (slice_index place 0) c.sixteen.ensures refl key_fits.1 value_fits.0 c.in-Some.ensures.value in
    tested_more c.args.page.now c.loop-i.last c.in-Some.key c.loop-i.i c.loop-i.invariant
    (subst IsGoodPlace place_is good) (key ∙ ap (λ (p : List ℕ). (element_in p).0) place_is)
    (λ some. elim c.else-i-gt0.branch [
      | else-i-gt0-via-then-i-gt0+else-not-is_below w ↦ w.is_below.ensures.0 w.if-not-is_below.false
      | else-i-gt0-via-else-i-gt0 w ↦ absurd (omega (arith, some, w.if-i-gt0.false))
    ])
