use Rattle.std.proofs.Common.{rules}
use Rattle.recfile_c.proofs.paged.recfile_create.Goals as goal

pub returns-clause-step : goal.returns-clause-step
returns-clause-step c = search rules
