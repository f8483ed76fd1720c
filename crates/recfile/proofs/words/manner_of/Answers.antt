use Rattle.std.proofs.Common.{refl}
use Rattle.recfile.proofs.words.manner_of.Goals as goal

pub returns : goal.returns
returns c = (refl, c.is_set.ensures)
