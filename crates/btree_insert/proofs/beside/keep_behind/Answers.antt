use Rattle.std.proofs.Common.{◌<◌, length, Some, [], sym, ◌∙◌, arith}
use Rattle.btree_node.specs.Lists.{Element}
use Rattle.btree_node.proofs.SpeltPageLemmas.{count_spelt}
use Rattle.rec_types.proofs.GapLemmas.{behind_none, behind_some}
use Rattle.btree_insert.proofs.beside.keep_behind.Goals as goal

pub returns-then-gap-count_in : goal.returns-then-gap-count_in
returns-then-gap-count_in c = λ m can is.
    sym (behind_none m.elements.items c.args.gap c.args.found.now (omega (arith, count_spelt c.args.order c.args.page.now m c.requires.0 can is)))

pub returns : goal.returns
returns c = λ m can is.
    let els = m.elements.items in
    let size = count_spelt c.args.order c.args.page.now m c.requires.0 can is in
    let low : c.args.gap < length els = omega (arith, size, c.requires.2) in
    let key_is = c.key_in.ensures m ([], []) can is in
    let value_is = c.record_in.ensures m ([], []) can is in
    (λ i. let p : Element = (key_is i, value_is i) in Some p) ∙ sym (behind_some els c.args.gap ([], []) c.args.found.now low)
