use Rattle.std.proofs.Common.{rules}
use Rattle.recfile.proofs.statuses.exit_status.Goals as goal

pub returns-then-script_fault : goal.returns-then-script_fault
returns-then-script_fault c = search rules

pub returns-then-file_fault : goal.returns-then-file_fault
returns-then-file_fault c = search rules
