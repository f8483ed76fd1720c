use Rattle.std.proofs.Common.{arith}
use Rattle.btree_node.proofs.ChangedPageLemmas.{field_put}
use Rattle.btree_node.proofs.changing.put_field.Goals as goal

pub returns : goal.returns
returns c = field_put c.args.at c.args.width c.args.bytes.now c.args.page.now c.put_bytes.new.page c.put_bytes-2.new.page c.put_zeros.new.page (omega (arith, c.told-page, c.requires.room)) c.requires.fits c.put_bytes.ensures c.put_bytes-2.ensures c.put_zeros.ensures
