use Rattle.std.proofs.Common.{refl}
use Rattle.command_text.specs.Grammar.{line_of, command_of, tx_command_of, file_command_of}
use Rattle.command_text.proofs.laws.bounded_lines.Goals as goal

pub returns-clause-entries : goal.returns-clause-entries
unfolding line_of command_of tx_command_of file_command_of
returns-clause-entries c = refl
