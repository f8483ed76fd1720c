use Rattle.std.proofs.Common.{rules}
use Rattle.command_text.proofs.reading.read_bounded_line.Goals as goal

pub returns : goal.returns
returns c = search rules
