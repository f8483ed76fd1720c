use Rattle.std.proofs.Common.{None, ◌∙◌}
use Rattle.btree_insert.proofs.TreeElementLemmas.{contents_set, contents_get}
use Rattle.btree_delete.proofs.laws.contents_after_deletion.Goals as goal

pub returns-clause-contents : goal.returns-clause-contents
returns-clause-contents c = λ old new tree next es us key before small holds deleted.
    contents_set old new tree next es us deleted.vs key None small deleted.order holds deleted.holds

pub returns-clause-answer : goal.returns-clause-answer
returns-clause-answer c = λ old new tree next es us key before small holds deleted.
    deleted.answer ∙ contents_get old tree es us key small holds
