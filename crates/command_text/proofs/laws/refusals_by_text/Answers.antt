use Rattle.command_text.proofs.RefusalLaws.{begins}
use Rattle.command_text.proofs.laws.refusals_by_text.Goals as goal

pub returns-clause-begins : goal.returns-clause-begins
returns-clause-begins c = begins
