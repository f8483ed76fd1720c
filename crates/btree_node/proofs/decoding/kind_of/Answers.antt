use Rattle.std.proofs.Common.{rules}
use Rattle.btree_node.specs.Reading.{kind_at}
use Rattle.btree_node.proofs.decoding.kind_of.Goals as goal

pub returns-in_default : goal.returns-in_default
unfolding kind_at
returns-in_default c = search rules
