use Rattle.std.proofs.Common.{◌-◌, arith}
use Rattle.btree_node.proofs.ChangedPageLemmas.{moved_put}
use Rattle.btree_node.proofs.changing.move_bytes.Goals as goal

pub returns : goal.returns
returns c = moved_put c.args.at c.args.start (c.args.end - c.args.start) c.copy_within.new.self c.args.page.now (omega arith) c.copy_within.ensures.after
