use Rattle.std.proofs.Common.{◌+◌, ◌-◌, ◌*◌, length, refl, arith, ap, ◌∙◌}
use Rattle.byteorder.specs.Endian.{big_bytes}
use Rattle.btree_node.specs.Layout.{second_layout}
use Rattle.btree_node.specs.Reading.{part}
use Rattle.btree_node.specs.Spelling.{place}
use Rattle.btree_node.specs.Written.{put_at}
use Rattle.btree_node.proofs.ChangedPageLemmas.{inserted_spelt}
use Rattle.btree_node.proofs.SpeltPageLemmas.{count_spelt}
use Rattle.btree_node.proofs.changing.insert_in.Goals as goal

pub returns : goal.returns
returns c = λ n can is.
    let i = c.args.i in
    let page = c.args.page.now in
    let count = count_spelt c.args.k page n c.requires.page.0 can is in
    let told = c.count_of-count.ensures ∙ count in
    let start = c.place_start-start.ensures.value in
    let end = c.place_start-end.ensures.value ∙ ap (λ m. 8 + 118 * m) told in
    inserted_spelt c.args.k i n c.args.element.now page (part (8 + 118 * i) (8 + 118 * length n.elements.items - (8 + 118 * i)) page) c.move_bytes.new.page c.put_place.new.page c.put_count.new.page can c.requires.element is c.told-page c.requires.page.0
    (omega (arith, count, c.requires.index)) (omega (arith, count, c.requires.room)) refl
    (c.move_bytes.ensures ∙ ap (λ at. put_at at (part c.place_start-start.result (c.place_start-end.result - c.place_start-start.result) page) page) c.place_start.ensures.value
    ∙ ap (λ at. put_at (8 + 118 * (i + 1)) (part at (c.place_start-end.result - at) page) page) start ∙ ap (λ to. put_at (8 + 118 * (i + 1)) (part (8 + 118 * i) (to - (8 + 118 * i)) page) page) end)
    (c.put_place.ensures ∙ ap (λ at. put_at at (place second_layout c.args.element.now) c.move_bytes.new.page) start)
    (c.put_count.ensures ∙ ap (λ m. put_at 2 (big_bytes 2 (m + 1)) c.put_place.new.page) told)
