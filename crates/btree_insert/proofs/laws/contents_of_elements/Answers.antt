use Rattle.btree_insert.proofs.ContentsLemmas.{get-contents_of, entries-contents_of, len-contents_of, set-ascends, contents_of-set}
use Rattle.btree_insert.proofs.laws.contents_of_elements.Goals as goal

pub returns-clause-get : goal.returns-clause-get
returns-clause-get c = λ es key up. get-contents_of es key up

pub returns-clause-entries : goal.returns-clause-entries
returns-clause-entries c = λ es up. entries-contents_of es up

pub returns-clause-count : goal.returns-clause-count
returns-clause-count c = λ es up. len-contents_of es up

pub returns-clause-ascends : goal.returns-clause-ascends
returns-clause-ascends c = λ es key w up. set-ascends es key w up

pub returns-clause-set : goal.returns-clause-set
returns-clause-set c = λ es key w up. contents_of-set es key w up
