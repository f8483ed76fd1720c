use Rattle.std.proofs.Common.{rules}
use Rattle.recfile_c.proofs.file_table.FileTableTable.limit.Goals as goal

pub returns-in-Paged : goal.returns-in-Paged
returns-in-Paged c = search rules
