use Rattle.std.proofs.Common.{sym, ◌∙◌}
use Rattle.btree_node.proofs.HeaderLemmas.{header_reads, fields_same}
use Rattle.btree_node.proofs.laws.one_header_spelling.Goals as goal

-- both are the header that stands at the fixed places of the page
pub returns : goal.returns
returns c = λ page h g here there fits_h is_h fits_g is_g.
    let one = header_reads page h here fits_h is_h in
    let two = header_reads page g there fits_g is_g in
    (sym (fields_same page h here one) ∙ fields_same page g there two, sym one.state ∙ two.state)
