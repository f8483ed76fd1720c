use Rattle.std.proofs.Common.{◌≡◌, ◌-◌, suc, ap, sym, ◌∙◌, arith}
use Rattle.btree_insert.specs.Bounds.{low_at}
use Rattle.btree_insert.proofs.BoundLemmas.{low_first, low_next}
use Rattle.btree_insert.proofs.bounds.low_of_son.Goals as goal

pub returns-then-i-eq0 : goal.returns-then-i-eq0
returns-then-i-eq0 c =
    let zero_is : 0 ≡ c.args.i = omega arith in
    sym (low_first c.args.elements.now c.args.low.now) ∙ ap (λ i. low_at c.args.elements.now i c.args.low.now) zero_is

pub returns-else-i-eq0 : goal.returns-else-i-eq0
returns-else-i-eq0 c =
    let next_is : suc (c.args.i - 1) ≡ c.args.i = omega arith in
    sym (low_next c.args.elements.now (c.args.i - 1) c.index-elements-i.result c.args.low.now (omega arith)) ∙ ap (λ i. low_at c.args.elements.now i c.args.low.now) next_is
