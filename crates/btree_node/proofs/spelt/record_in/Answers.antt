use Rattle.std.proofs.Common.{[], arith}
use Rattle.btree_node.proofs.SpeltPageLemmas.{few_places, record_spelt}
use Rattle.btree_node.proofs.spelt.record_in.Goals as goal

pub place_of_page-place-requires-clause-index : goal.place_of_page-place-requires-clause-index
place_of_page-place-requires-clause-index c = omega (arith, c.requires.index, few_places c.args.k c.args.page.now c.requires.page.0 c.requires.page.1)

pub unwrap-requires : goal.unwrap-requires
unwrap-requires c =
    let spelt = c.requires.page.1 in
    let value = record_spelt c.args.k c.args.page.now c.place_of_page-place.result.now c.a_hundred.result spelt.0 c.args.i ([], []) c.requires.page.0 spelt.1 spelt.2 c.requires.index c.place_of_page-place.ensures.value c.a_hundred.ensures in
    c.in_field.ensures.some.1 (value.fits, value.zeros)

pub returns : goal.returns
returns c = λ node other can is.
    let value = record_spelt c.args.k c.args.page.now c.place_of_page-place.result.now c.a_hundred.result node c.args.i other c.requires.page.0 can is c.requires.index c.place_of_page-place.ensures.value c.a_hundred.ensures in
    grind (arith, c.unwrap.ensures, c.in_field.ensures.value, value.front)
