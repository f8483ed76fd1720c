use Rattle.std.proofs.Common.{◌+◌, ◌*◌, length}
use Rattle.btree_delete.specs.Survey.{sons_from}
use Rattle.btree_delete.proofs.opening.survey.+surveying.Given as goal

abbrev pub decreases-survey_page : goal.decreases-survey_page
decreases-survey_page g l = 100 * l.above.now.left

abbrev pub decreases-survey_sons : goal.decreases-survey_sons
decreases-survey_sons g l = 100 * l.above.now.left + (1 + length (sons_from l.order l.page.now l.i))
