use Rattle.std.proofs.Common.{◌+◌, ◌-◌, length, arith}
use Rattle.btree_node.proofs.ChangedPageLemmas.{put_mid-put_at}
use Rattle.btree_node.proofs.changing.put_bytes.Goals as goal

pub returns : goal.returns
returns c = put_mid-put_at c.args.at (c.args.at + length c.args.bytes.now - c.args.at) c.copy_from_slice.new.self c.args.bytes.now c.args.page.now c.copy_from_slice.ensures.after (omega arith)
