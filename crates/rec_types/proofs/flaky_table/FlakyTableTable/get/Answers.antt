use Rattle.std.proofs.Common.{rules}
use Rattle.rec_types.proofs.flaky_table.FlakyTableTable.get.Goals as goal

pub returns-clause-answered : goal.returns-clause-answered
returns-clause-answered g c = search rules
