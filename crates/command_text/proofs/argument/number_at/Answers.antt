use Rattle.std.proofs.Common.{rules}
use Rattle.command_text.proofs.argument.number_at.Goals as goal

pub returns : goal.returns
returns c = search rules
