use Rattle.file_session.proofs.OpeningLemmas.{can_be_opened}
use Rattle.recfile.proofs.copying.open_whole.Goals as goal

pub returns-in-Ok-clause-closed : goal.returns-in-Ok-clause-closed
returns-in-Ok-clause-closed g c steady = can_be_opened _ _ c.args.limits.records _ c.in-Ok.table.pages c.in-Ok.table.tree (c.in-Ok.ensures.found steady)
