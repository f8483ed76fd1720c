use Rattle.std.proofs.Common.{rules}
use Rattle.file_session.proofs.file_fault.FileFaultFromWriteFault.from.Goals as goal

pub returns-in-Device : goal.returns-in-Device
returns-in-Device c = search rules
