use Rattle.btree_insert.proofs.TreeClassLemmas.{to_lists, to_class}
use Rattle.btree_insert.proofs.laws.trees_of_the_class.Goals as goal

pub returns-clause-lists : goal.returns-clause-lists
returns-clause-lists c = λ pages tree t us is. to_lists pages tree t us is

pub returns-clause-class : goal.returns-clause-class
returns-clause-class c = λ pages tree es us holds. to_class pages tree es us holds
