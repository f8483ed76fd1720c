use Rattle.std.proofs.Common.{rules}
use Rattle.btree_delete.proofs.opening.open_file.measure_file.Goals as goal

pub returns-then-tree-limit-clause-fault : goal.returns-then-tree-limit-clause-fault
returns-then-tree-limit-clause-fault g c = search rules

pub returns-clause-count : goal.returns-clause-count
returns-clause-count g c = search rules
