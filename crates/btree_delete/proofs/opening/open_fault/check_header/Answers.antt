use Rattle.std.proofs.Common.{rules}
use Rattle.btree_delete.proofs.opening.open_fault.check_header.Goals as goal

pub returns-clause-agrees : goal.returns-clause-agrees
returns-clause-agrees g c = search rules
