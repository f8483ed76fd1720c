use Rattle.btree_insert.proofs.TreeElementLemmas.{held_elements}
use Rattle.btree_insert.proofs.laws.elements_of_pages.Goals as goal

pub returns : goal.returns
returns c = λ pages t es us small holds. held_elements pages t es us small holds
