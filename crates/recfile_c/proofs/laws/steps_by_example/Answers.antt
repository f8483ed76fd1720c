use Rattle.std.proofs.Common.{refl}
use Rattle.recfile_c.proofs.StepLaws.{left_out, another_order}
use Rattle.recfile_c.proofs.laws.steps_by_example.Goals as goal

pub returns : goal.returns
returns c = record { in_order = refl; left_out = left_out; another_order = another_order }
