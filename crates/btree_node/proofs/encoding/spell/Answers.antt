use Rattle.std.proofs.Common.{rules, arith}
use Rattle.std.proofs.lemmas.Grind.{common_steps}
use Rattle.btree_node.specs.Spelling.{spelling_in}
use Rattle.btree_node.proofs.ElementOrderLemmas.{sons_most}
use Rattle.btree_node.proofs.encoding.spell.Goals as goal

pub returns : goal.returns
unfolding spelling_in
returns c = search (rules, sons_most)

pub skip_to-requires-clause-behind : goal.skip_to-requires-clause-behind
skip_to-requires-clause-behind c = grind (arith, common_steps)
