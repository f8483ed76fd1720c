use Rattle.std.proofs.Common.{◌+◌, ◌-◌, ◌*◌, [], replicate, length, refl, arith, ap, ◌∙◌}
use Rattle.byteorder.specs.Endian.{big_bytes}
use Rattle.btree_node.specs.Lists.{Element}
use Rattle.btree_node.specs.Reading.{part}
use Rattle.btree_node.specs.Written.{put_at}
use Rattle.btree_node.proofs.ChangedPageLemmas.{removed_spelt}
use Rattle.btree_node.proofs.FewerElementsLemmas.{count_few}
use Rattle.btree_node.proofs.SpeltPageLemmas.{count_spelt}
use Rattle.btree_node.proofs.changing.remove_in.Goals as goal

pub place_start-start-requires : goal.place_start-start-requires
place_start-start-requires c = (omega arith, omega (arith, count_few c.args.k c.args.page.now c.requires.page.0 c.requires.page.1, c.requires.index))

pub place_start-end-requires : goal.place_start-end-requires
place_start-end-requires c =
    (omega arith, omega (arith, count_few c.args.k c.args.page.now c.requires.page.0 c.requires.page.1, c.requires.index, c.count_of-left.ensures))

pub returns : goal.returns
returns c = λ n can is.
    let i = c.args.i in
    let page = c.args.page.now in
    let none : Element = ([], []) in
    let count = count_spelt c.args.k page n c.requires.page.0 can is in
    let told = c.count_of-left.ensures ∙ count in
    let start = c.place_start-start.ensures.value in
    let last = ap (λ m. m - 1) told in
    let end = c.place_start-end.ensures.value ∙ ap (λ m. 8 + 118 * m) (omega (arith, c.requires.index, told, count)) in
    removed_spelt c.args.k i n none page (part (8 + 118 * (i + 1)) (8 + 118 * length n.elements.items - (8 + 118 * (i + 1))) page) c.move_bytes.new.page c.put_zeros.new.page c.put_count.new.page can is c.told-page c.requires.page.0
    (omega (arith, count, c.requires.index)) refl
    (c.move_bytes.ensures ∙ ap (λ at. put_at at (part c.place_start-start.result (c.place_start-end.result - c.place_start-start.result) page) page) c.place_start.ensures.value
    ∙ ap (λ at. put_at (8 + 118 * i) (part at (c.place_start-end.result - at) page) page) start ∙ ap (λ to. put_at (8 + 118 * i) (part (8 + 118 * (i + 1)) (to - (8 + 118 * (i + 1))) page) page) end)
    (c.put_zeros.ensures ∙ ap (λ at. put_at at (replicate c.place_width.result 0) c.move_bytes.new.page) (c.place_start-2.ensures.value ∙ ap (λ m. 8 + 118 * m) last) ∙ ap (λ m. put_at (8 + 118 * (length n.elements.items - 1)) (replicate m 0) c.move_bytes.new.page) c.place_width.ensures)
    (c.put_count.ensures ∙ ap (λ m. put_at 2 (big_bytes 2 m) c.put_zeros.new.page) last)
