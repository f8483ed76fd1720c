use Rattle.std.proofs.Common.{Some, [], ap, sym, ◌∙◌, arith}
use Rattle.btree_node.proofs.SpeltPageLemmas.{count_spelt}
use Rattle.btree_insert.proofs.BoundLemmas.{high_last, high_next}
use Rattle.btree_insert.proofs.step.high_in.Goals as goal

pub returns-then-i-count_in : goal.returns-then-i-count_in
returns-then-i-count_in c = λ m can is.
    sym (high_last m.elements.items c.args.i c.args.high.now (omega (arith, count_spelt c.args.order c.args.page.now m c.requires.0 can is)))

pub returns-else-i-count_in : goal.returns-else-i-count_in
returns-else-i-count_in c = λ m can is.
    let size = count_spelt c.args.order c.args.page.now m c.requires.0 can is in
    ap Some (c.key_in.ensures m ([], []) can is) ∙ sym (high_next m.elements.items c.args.i ([], []) c.args.high.now (omega (arith, size, c.requires.2)))
