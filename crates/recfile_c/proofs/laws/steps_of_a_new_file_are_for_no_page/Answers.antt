use Rattle.recfile_c.proofs.TryLemmas.{newly_made}
use Rattle.recfile_c.proofs.laws.steps_of_a_new_file_are_for_no_page.Goals as goal

pub returns : goal.returns
returns c = newly_made
