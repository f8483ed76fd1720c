use Rattle.std.proofs.Common.{◌≡◌, [], ◌∷◌, ◌++◌, refl, ap, sym, subst, ◌∙◌, slice_index, arith, inl, inr}
use Rattle.std.proofs.lemmas.Bool.{cases_lt}
use Rattle.btree_node.specs.Layout.{second_layout}
use Rattle.btree_node.specs.Lists.{Ascends}
use Rattle.btree_node.specs.Reading.{element_in, elements_at, place_at, IsGoodPlace}
use Rattle.btree_node.proofs.QuickPassLemmas.{good_place, element_is}
use Rattle.btree_node.proofs.PagePartLemmas.{read_more}
use Rattle.btree_node.proofs.read_first.fill_elements.Goals as goal

-- one good place more
pub loop-i-preserved : goal.loop-i-preserved
unfolding elements_at
loop-i-preserved c =
    let place = c.place_of_page-place.result.now in
    let value = c.in-Some-in_field.value in
    let key_fits = c.in-Some.ensures.some.0 refl in
    let value_fits = c.in-Some-in_field.ensures.some.0 refl in
    let good : IsGoodPlace place =
    good_place place c.sixteen.result c.a_hundred.result (slice_index place 0) (slice_index place 17) c.place_of_page-place.ensures.len c.sixteen.ensures c.a_hundred.ensures refl refl key_fits value_fits in
    let element =
    element_is place c.sixteen.result c.a_hundred.result c.in-Some.key value (slice_index place 0) (slice_index place 17) c.sixteen.ensures c.a_hundred.ensures refl refl key_fits.1 value_fits.0 c.in-Some.ensures.value c.in-Some-in_field.ensures.value in
    record {
      items = read_more (λ i. element_in (place_at second_layout c.args.page.now i)) c.loop-i.i c.loop-i.elements.items _ _ c.loop-i.invariant.items c.push.ensures.items
          (element ∙ ap element_in c.place_of_page-place.ensures.value);
      len = omega arith;
      ascends = subst Ascends (sym c.push.ensures.items) (subst (λ es. Ascends (es ++ (c.in-Some.key, value) ∷ [])) c.as_slice.ensures.value (c.may_follow.ensures c.if-not-may_follow.false value));
      good = λ j low. elim (cases_lt j c.loop-i.i) [
        | inl before ↦ c.loop-i.invariant.good j before
        | inr here ↦ let same : c.loop-i.i ≡ j = omega (arith, here, low) in
            subst (λ i. IsGoodPlace (place_at second_layout c.args.page.now i)) same (subst IsGoodPlace c.place_of_page-place.ensures.value good)
      ];
    }
