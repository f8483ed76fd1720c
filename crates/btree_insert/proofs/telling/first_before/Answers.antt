use Rattle.std.proofs.Common.{get_or, take, reverse, arith}
use Rattle.btree_node.proofs.SpeltPageLemmas.{count_spelt}
use Rattle.btree_insert.proofs.TellingLemmas.{nobody, last_is, first_before_is}
use Rattle.btree_insert.proofs.telling.first_before.Goals as goal

pub returns : goal.returns
returns c = λ m can is.
    let els = m.elements.items in
    let size = count_spelt c.args.order c.args.page.now m c.requires.0 can is in
    last_is (reverse (take c.args.gap els)) (get_or els 0 nobody) c.key_in.result (c.key_in.ensures m nobody can is) (first_before_is els c.args.gap (omega (arith, c.if-gap-eq0.false)) (omega (arith, size, c.requires.2)))
