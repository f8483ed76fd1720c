use Rattle.std.proofs.Common.{rules}
use Rattle.btree_node.proofs.page_writer.PageWriter.wrote.Goals as goal

pub returns : goal.returns
returns c = search rules
