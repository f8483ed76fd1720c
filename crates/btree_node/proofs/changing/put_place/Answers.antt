use Rattle.std.proofs.Common.{◌+◌, arith, ap, ◌∙◌}
use Rattle.btree_node.specs.Spelling.{field}
use Rattle.btree_node.specs.Written.{put_at}
use Rattle.btree_node.proofs.ChangedPageLemmas.{place_put}
use Rattle.btree_node.proofs.changing.put_place.Goals as goal

pub returns : goal.returns
returns c =
    place_put c.args.at c.args.element.now c.args.page.now c.put_field.new.page c.put_field-2.new.page (omega (arith, c.told-page, c.requires.room)) c.requires.element
    (c.put_field.ensures ∙ ap (λ bytes. put_at c.args.at (field 16 bytes) c.args.page.now) c.bytes.ensures.value)
    (c.put_field-2.ensures ∙ ap (λ bytes. put_at (c.args.at + 17) (field 100 bytes) c.put_field.new.page) c.bytes-2.ensures.value)
