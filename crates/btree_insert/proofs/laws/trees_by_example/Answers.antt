use Rattle.std.proofs.Common.{◌∷◌, [], arith}
use Rattle.page_store.specs.PageMap.{at}
use Rattle.btree_insert.specs.Examples.{ax, by, cz, tree_of, three_pages}
use Rattle.btree_insert.proofs.TreeElementLemmas.{held_elements}
use Rattle.btree_insert.proofs.TreeExampleLemmas.{three_hold, uneven_hold, shared_hold, equal_hold}
use Rattle.btree_insert.proofs.laws.trees_by_example.Goals as goal

pub returns-clause-three : goal.returns-clause-three
returns-clause-three c = three_hold

pub returns-clause-elements : goal.returns-clause-elements
returns-clause-elements c = held_elements (at three_pages) (tree_of 3 2 3 3) (ax ∷ by ∷ cz ∷ []) (3 ∷ 1 ∷ 2 ∷ []) (omega arith) three_hold

pub returns-clause-uneven : goal.returns-clause-uneven
returns-clause-uneven c = λ height count used es us holds. uneven_hold height count used es us holds

pub returns-clause-shared : goal.returns-clause-shared
returns-clause-shared c = λ height count used es us holds. shared_hold height count used es us holds

pub returns-clause-equal : goal.returns-clause-equal
returns-clause-equal c = λ height count used es us holds. equal_hold height count used es us holds
