use Rattle.std.proofs.Common.{rules}
use Rattle.file_session.proofs.file_fault.FileFaultFromCreateFault.from.Goals as goal

pub returns-in-NotEmpty : goal.returns-in-NotEmpty
returns-in-NotEmpty c = search rules
