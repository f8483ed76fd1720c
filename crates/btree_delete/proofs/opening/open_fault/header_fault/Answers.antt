use Rattle.std.proofs.Common.{rules}
use Rattle.btree_delete.proofs.opening.open_fault.header_fault.Goals as goal

pub returns-in-NotClean : goal.returns-in-NotClean
returns-in-NotClean c = search rules
