use Rattle.std.proofs.Common.{rules}
use Rattle.file_session.proofs.file_fault.FileFaultFromOpenFault.from.Goals as goal

pub returns-in-NotClean : goal.returns-in-NotClean
returns-in-NotClean c = search rules
