use Rattle.std.proofs.Common.{[], arith}
use Rattle.btree_node.proofs.SpeltPageLemmas.{few_places, key_spelt}
use Rattle.btree_node.proofs.spelt.key_in.Goals as goal

pub place_of_page-place-requires-clause-index : goal.place_of_page-place-requires-clause-index
place_of_page-place-requires-clause-index c = omega (arith, c.requires.index, few_places c.args.k c.args.page.now c.requires.page.0 c.requires.page.1)

pub unwrap-requires : goal.unwrap-requires
unwrap-requires c =
    let spelt = c.requires.page.1 in
    let key = key_spelt c.args.k c.args.page.now c.place_of_page-place.result.now c.sixteen.result spelt.0 c.args.i ([], []) c.requires.page.0 spelt.1 spelt.2 c.requires.index c.place_of_page-place.ensures.value c.sixteen.ensures in
    c.in_field.ensures.some.1 (key.0, key.1.fits, key.1.zeros)

pub returns : goal.returns
returns c = λ node other can is.
    let key = key_spelt c.args.k c.args.page.now c.place_of_page-place.result.now c.sixteen.result node c.args.i other c.requires.page.0 can is c.requires.index c.place_of_page-place.ensures.value c.sixteen.ensures in
    grind (arith, c.unwrap.ensures, c.in_field.ensures.value, key.1.front)
