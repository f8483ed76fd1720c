use Rattle.std.proofs.Common.{◌≡◌, ◌-◌, suc, Some, [], ap, sym, ◌∙◌, arith}
use Rattle.btree_node.proofs.SpeltPageLemmas.{count_spelt}
use Rattle.btree_insert.specs.Bounds.{low_at}
use Rattle.btree_insert.proofs.BoundLemmas.{low_first, low_next}
use Rattle.btree_insert.proofs.step.low_in.Goals as goal

pub returns-then-i-eq0 : goal.returns-then-i-eq0
returns-then-i-eq0 c = λ m can is.
    let zero_is : 0 ≡ c.args.i = omega arith in
    sym (low_first m.elements.items c.args.low.now) ∙ ap (λ i. low_at m.elements.items i c.args.low.now) zero_is

pub returns-else-i-eq0 : goal.returns-else-i-eq0
returns-else-i-eq0 c = λ m can is.
    let next_is : suc (c.args.i - 1) ≡ c.args.i = omega arith in
    let size = count_spelt c.args.order c.args.page.now m c.requires.0 can is in
    ap Some (c.key_in.ensures m ([], []) can is)
    ∙ sym (low_next m.elements.items (c.args.i - 1) ([], []) c.args.low.now (omega (arith, size, c.requires.2))) ∙ ap (λ i. low_at m.elements.items i c.args.low.now) next_is
