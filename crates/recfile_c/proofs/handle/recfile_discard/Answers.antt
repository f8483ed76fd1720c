use Rattle.std.proofs.Common.{rules}
use Rattle.recfile_c.proofs.handle.recfile_discard.Goals as goal

pub returns-in-Some : goal.returns-in-Some
returns-in-Some c = search rules
