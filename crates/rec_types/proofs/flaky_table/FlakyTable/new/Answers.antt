use Rattle.std.proofs.Common.{rules}
use Rattle.rec_types.proofs.flaky_table.FlakyTable.new.Goals as goal

pub returns : goal.returns
returns g c = search rules
