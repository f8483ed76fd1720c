use Rattle.std.proofs.Common.{rules}
use Rattle.btree_delete.proofs.opening.survey.Survey.add_leaf.Goals as goal

pub returns-2-clause-fits : goal.returns-2-clause-fits
returns-2-clause-fits c = search rules
