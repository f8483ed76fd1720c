use Rattle.recfile_c.proofs.TryLemmas.{handed_in}
use Rattle.recfile_c.proofs.laws.steps_are_for_the_pages_handed_in.Goals as goal

pub returns : goal.returns
returns c = handed_in
