use Rattle.std.proofs.Common.{arith, ap, ◌∙◌}
use Rattle.btree_node.specs.Layout.{second_layout}
use Rattle.btree_node.specs.Spelling.{place}
use Rattle.btree_node.specs.Written.{put_at}
use Rattle.btree_node.proofs.ChangedPageLemmas.{replaced_spelt}
use Rattle.btree_node.proofs.SpeltPageLemmas.{count_spelt, few_places}
use Rattle.btree_node.proofs.changing.replace_in.Goals as goal

pub place_start-requires : goal.place_start-requires
place_start-requires c = (omega arith, omega (arith, few_places c.args.k c.args.page.now c.requires.page.0 c.requires.page.1, c.requires.index))

pub returns : goal.returns
returns c = λ n can is.
    c.put_place.ensures
    ∙ ap (λ at. put_at at (place second_layout c.args.element.now) c.args.page.now) c.place_start.ensures.value
    ∙ replaced_spelt c.args.k c.args.i n c.args.element.now c.args.page.now can c.requires.element is (omega (arith, count_spelt c.args.k c.args.page.now n c.requires.page.0 can is, c.requires.index))
