use Rattle.std.proofs.Common.{◌≡◌, ℕ, ◌-◌, ◌<◌, suc, length, Some, [], sym, ap, ◌∙◌, arith}
use Rattle.btree_node.specs.Lists.{Element}
use Rattle.btree_node.proofs.SpeltPageLemmas.{count_spelt}
use Rattle.rec_types.specs.Ordered.{before_gap}
use Rattle.rec_types.proofs.GapLemmas.{before_none, before_some}
use Rattle.btree_insert.proofs.beside.keep_before.Goals as goal

pub returns-then-gap-eq0 : goal.returns-then-gap-eq0
returns-then-gap-eq0 c = λ m can is. sym (before_none m.elements.items c.args.gap c.args.found.now (omega arith))

pub returns : goal.returns
returns c = λ m can is.
    let els = m.elements.items in
    let size = count_spelt c.args.order c.args.page.now m c.requires.0 can is in
    let j = c.args.gap - 1 in
    let low : j < length els = omega (arith, size, c.requires.2) in
    let one : suc j ≡ c.args.gap = omega arith in
    let key_is = c.key_in.ensures m ([], []) can is in
    let value_is = c.record_in.ensures m ([], []) can is in
    (λ i. let p : Element = (key_is i, value_is i) in Some p) ∙ sym (before_some els j ([], []) c.args.found.now low) ∙ ap (λ (n : ℕ). before_gap els n c.args.found.now) one
