use Rattle.std.proofs.Common.{ℕ, ◌+◌, ◌-◌, ◌*◌, replicate, length, arith, ap, ◌∙◌}
use Rattle.byteorder.specs.Endian.{big_bytes}
use Rattle.btree_node.specs.Reading.{part}
use Rattle.btree_node.specs.Written.{put_at}
use Rattle.btree_node.proofs.FewerElementsLemmas.{count_few, kept_last}
use Rattle.btree_node.proofs.SpeltPageLemmas.{count_spelt}
use Rattle.btree_node.proofs.changing.drop_first.Goals as goal

pub place_start-start-requires : goal.place_start-start-requires
place_start-start-requires c = (omega arith, omega (arith, count_few c.args.k c.args.page.now c.requires.page.0 c.requires.page.1, c.requires.index))

pub place_start-past-requires : goal.place_start-past-requires
place_start-past-requires c = (omega arith, omega (arith, count_few c.args.k c.args.page.now c.requires.page.0 c.requires.page.1, c.count_of-count.ensures))

pub place_start-requires-2 : goal.place_start-requires-2
place_start-requires-2 c = (omega arith, omega (arith, count_few c.args.k c.args.page.now c.requires.page.0 c.requires.page.1, c.count_of-count.ensures))

pub returns : goal.returns
returns c = λ n can is.
    let m = c.args.m in
    let page = c.args.page.now in
    let count = count_spelt c.args.k page n c.requires.page.0 can is in
    let told = c.count_of-count.ensures ∙ count in
    let A : ℕ = c.place_start-start.result in
    let B : ℕ = c.place_start-past.result in
    kept_last c.args.k m n page c.move_bytes.new.page c.put_zeros.new.page c.put_count.new.page can is c.told-page (omega (arith, count, c.requires.index))
    (c.move_bytes.ensures ∙ ap (λ at. put_at at (part A (B - A) page) page) c.place_start.ensures.value
    ∙ ap (λ from. put_at 8 (part from (B - from) page) page) c.place_start-start.ensures.value
    ∙ ap (λ to. put_at 8 (part (8 + 118 * m) (to - (8 + 118 * m)) page) page) (c.place_start-past.ensures.value ∙ ap (λ all. 8 + 118 * all) told))
    (c.put_zeros.ensures ∙ ap (λ at. put_at at (replicate (c.place_width.result * m) 0) c.move_bytes.new.page) (c.place_start-2.ensures.value ∙ ap (λ all. 8 + 118 * (all - m)) told)
    ∙ ap (λ w. put_at (8 + 118 * (length n.elements.items - m)) (replicate (w * m) 0) c.move_bytes.new.page) c.place_width.ensures)
    (c.put_count.ensures ∙ ap (λ all. put_at 2 (big_bytes 2 (all - m)) c.put_zeros.new.page) told)
