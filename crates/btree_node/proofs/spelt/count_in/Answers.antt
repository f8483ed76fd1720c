use Rattle.std.proofs.Common.{◌∙◌}
use Rattle.btree_node.proofs.SpeltPageLemmas.{count_spelt}
use Rattle.btree_node.proofs.spelt.count_in.Goals as goal

pub returns-clause-node : goal.returns-clause-node
returns-clause-node c = λ k node small can is. c.count_of.ensures ∙ count_spelt k c.args.page.now node small can is
