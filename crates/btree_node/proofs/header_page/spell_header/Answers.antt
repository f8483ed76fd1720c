use Rattle.std.proofs.Common.{ap, ◌∙◌}
use Rattle.byteorder.specs.Endian.{big_bytes}
use Rattle.rec_types.specs.Padded.{padded}
use Rattle.btree_node.specs.HeaderSpelling.{magic, header_bytes, header_spelling}
use Rattle.btree_node.proofs.HeaderLemmas.{written_in_turn}
use Rattle.btree_node.proofs.header_page.spell_header.Goals as goal

pub returns : goal.returns
unfolding header_spelling header_bytes magic
returns c =
    let h = c.args.header.now in
    c.finish.ensures
    ∙ ap (padded 4096)
    (written_in_turn _ _ _ _ _ _ _ _ magic (big_bytes 2 h.version) (big_bytes 2 h.order) (big_bytes 4 h.pages) (big_bytes 4 h.root) (big_bytes 4 h.count) _ _
    c.new-page.ensures c.put.ensures c.put_u16.ensures.value c.put_u16-2.ensures.value c.put_u32.ensures.value c.put_u32-2.ensures.value c.put_u32-3.ensures.value c.put-2.ensures c.state_byte.ensures)
