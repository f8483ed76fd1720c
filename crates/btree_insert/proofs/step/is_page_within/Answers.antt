use Rattle.std.proofs.Common.{◌-◌, [], ap, ◌∙◌, arith, get_or}
use Rattle.btree_node.proofs.SpeltPageLemmas.{count_spelt}
use Rattle.btree_insert.proofs.SearchStepLemmas.{first_tells, last_tells}
use Rattle.btree_insert.proofs.step.is_page_within.Goals as goal

pub key_in-first-requires-clause-index : goal.key_in-first-requires-clause-index
key_in-first-requires-clause-index c =
    let spelt = c.requires.1 in
    omega (arith, count_spelt c.args.order c.args.page.now spelt.0 c.requires.0 spelt.1 spelt.2, spelt.1.some)

pub returns-then-is_over : goal.returns-then-is_over
returns-then-is_over c = λ m can is.
    let size = c.count_in.ensures.node c.args.order m c.requires.0 can is in
    last_tells c.args.bounds.now m.elements.items ([], []) ([], []) c.key_in-first.result c.key_in-last.result c.is_under.result can.some can.ascends (c.key_in-first.ensures m ([], []) can is)
    (c.key_in-last.ensures m ([], []) can is ∙ ap (λ n. (get_or m.elements.items (n - 1) ([], [])).0) size) (c.is_over.ensures.0 c.if-is_over.true) c.is_under.ensures

pub returns-else-is_over : goal.returns-else-is_over
returns-else-is_over c = λ m can is.
    first_tells c.args.bounds.now m.elements.items ([], []) c.key_in-first.result c.is_over.result can.some (c.key_in-first.ensures m ([], []) can is) c.is_over.ensures c.if-is_over.false
