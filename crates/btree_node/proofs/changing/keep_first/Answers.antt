use Rattle.std.proofs.Common.{◌+◌, ◌-◌, ◌*◌, replicate, arith, ap, ◌∙◌}
use Rattle.btree_node.specs.Written.{put_at}
use Rattle.btree_node.proofs.FewerElementsLemmas.{count_few, kept_first}
use Rattle.btree_node.proofs.SpeltPageLemmas.{count_spelt}
use Rattle.btree_node.proofs.changing.keep_first.Goals as goal

pub place_start-requires : goal.place_start-requires
place_start-requires c = (omega arith, omega (arith, count_few c.args.k c.args.page.now c.requires.page.0 c.requires.page.1, c.requires.index))

pub overflow_mul-place_width : goal.overflow_mul-place_width
overflow_mul-place_width c =
    omega (arith, ap (λ w. w * (c.count_of.result - c.args.m)) c.place_width.ensures, count_few c.args.k c.args.page.now c.requires.page.0 c.requires.page.1, c.count_of.ensures)

pub put_zeros-requires : goal.put_zeros-requires
put_zeros-requires c =
    omega (arith, ap (λ w. w * (c.count_of.result - c.args.m)) c.place_width.ensures, count_few c.args.k c.args.page.now c.requires.page.0 c.requires.page.1, c.count_of.ensures, c.place_start.ensures.value, c.requires.index)

pub returns : goal.returns
returns c = λ n can is.
    let m = c.args.m in
    let page = c.args.page.now in
    let count = count_spelt c.args.k page n c.requires.page.0 can is in
    kept_first c.args.k m n page c.put_zeros.new.page c.put_count.new.page can is (omega (arith, count, c.requires.index))
    (c.put_zeros.ensures ∙ ap (λ at. put_at at (replicate (c.place_width.result * (c.count_of.result - m)) 0) page) c.place_start.ensures.value
    ∙ ap (λ w. put_at (8 + 118 * m) (replicate (w * (c.count_of.result - m)) 0) page) c.place_width.ensures
    ∙ ap (λ all. put_at (8 + 118 * m) (replicate (118 * (all - m)) 0) page) (c.count_of.ensures ∙ count))
    c.put_count.ensures
