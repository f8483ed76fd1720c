use Rattle.std.proofs.Common.{◌≡◌, ◌-◌, ◌≤◌, suc, length, get_or, drop, arith}
use Rattle.btree_node.proofs.SpeltPageLemmas.{count_spelt}
use Rattle.btree_insert.proofs.TellingLemmas.{nobody, last_is, last_behind_is}
use Rattle.btree_insert.proofs.telling.last_behind.Goals as goal

pub returns : goal.returns
returns c = λ m can is.
    let els = m.elements.items in
    let size = count_spelt c.args.order c.args.page.now m c.requires.0 can is in
    let n = c.count_in-count.result - 1 in
    let low : c.args.gap ≤ n = omega (arith, c.requires.2, c.if-gap-count.false, c.count_in-count.ensures.value) in
    let whole : suc n ≡ length els = omega (arith, size, c.requires.2, c.if-gap-count.false, c.count_in-count.ensures.value) in
    last_is (drop c.args.gap els) (get_or els n nobody) c.key_in.result (c.key_in.ensures m nobody can is) (last_behind_is els c.args.gap n low whole)
