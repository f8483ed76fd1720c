use Rattle.std.proofs.Common.{rules}
use Rattle.rec_types.proofs.sorted_table.SortedTableTable.limit.Goals as goal

pub returns : goal.returns
returns c = search rules
