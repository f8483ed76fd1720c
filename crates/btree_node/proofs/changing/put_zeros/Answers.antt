use Rattle.std.proofs.Common.{◌+◌, ◌-◌, arith}
use Rattle.btree_node.proofs.ChangedPageLemmas.{filled}
use Rattle.btree_node.proofs.changing.put_zeros.Goals as goal

pub returns : goal.returns
returns c = filled c.args.at (c.args.at + c.args.count - c.args.at) c.args.count c.fill.new.self c.args.page.now (omega (arith, c.told-page, c.requires)) (omega arith) (c.fill.ensures.after (λ y is. is))
