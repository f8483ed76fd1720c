use Rattle.std.proofs.Common.{ap, ◌∙◌, unwrap_or}
use Rattle.btree_node.specs.declared.node.NodeKind.TheVariants.{Leaf}
use Rattle.btree_node.proofs.SpeltPageLemmas.{kind_spelt}
use Rattle.btree_node.proofs.spelt.kind_in.Goals as goal

pub returns : goal.returns
returns c = λ k node small can is. c.unwrap_or.ensures ∙ ap (λ o. unwrap_or o Leaf) c.kind_of.ensures ∙ kind_spelt k c.args.page.now node small can is
