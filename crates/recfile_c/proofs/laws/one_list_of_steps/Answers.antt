use Rattle.recfile_c.proofs.StepLaws.{one_list}
use Rattle.recfile_c.proofs.laws.one_list_of_steps.Goals as goal

pub returns : goal.returns
returns c = one_list
