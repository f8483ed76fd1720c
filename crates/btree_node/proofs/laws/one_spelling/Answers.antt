use Rattle.std.proofs.Common.{refl, sym, ◌∙◌}
use Rattle.btree_node.specs.Spelling.{spelling_in}
use Rattle.btree_node.proofs.DecodeLemmas.{reads, node_reads}
use Rattle.btree_node.proofs.laws.one_spelling.Goals as goal

-- the page reads as each of the nodes that it spells
pub returns : goal.returns
returns c = λ layout k n m small can_n can_m same.
    let page = spelling_in layout n k in
    sym (node_reads layout k page n (reads layout k page n small can_n refl)) ∙ node_reads layout k page m (reads layout k page m small can_m same)
