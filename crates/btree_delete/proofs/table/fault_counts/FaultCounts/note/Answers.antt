use Rattle.std.proofs.Common.{rules}
use Rattle.btree_delete.proofs.table.fault_counts.FaultCounts.note.Goals as goal

pub returns-in-Err-Damaged-clause-damages : goal.returns-in-Err-Damaged-clause-damages
returns-in-Err-Damaged-clause-damages g c = search rules
