use Rattle.std.proofs.Common.{Some, ◌∙◌}
use Rattle.btree_insert.proofs.TreeElementLemmas.{contents_set, contents_get}
use Rattle.btree_insert.proofs.laws.contents_after_insertion.Goals as goal

pub returns-clause-contents : goal.returns-clause-contents
returns-clause-contents c = λ old new fresh taken tree next es us key value before small holds inserted.
    contents_set old new tree next es us inserted.vs key (Some value) small inserted.order holds inserted.holds

pub returns-clause-answer : goal.returns-clause-answer
returns-clause-answer c = λ old new fresh taken tree next es us key value before small holds inserted.
    inserted.answer ∙ contents_get old tree es us key small holds
