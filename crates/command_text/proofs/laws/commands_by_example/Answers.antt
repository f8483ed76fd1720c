use Rattle.std.proofs.Common.{refl}
use Rattle.percent_encoding.specs.Percent.{percent_decode}
use Rattle.command_text.specs.Grammar.{line_of, command_of, tx_command_of, file_command_of, value_of}
use Rattle.command_text.proofs.laws.commands_by_example.Goals as goal

pub returns : goal.returns
unfolding line_of command_of tx_command_of file_command_of value_of percent_decode
returns c = record {
  put = refl;
  escapes = refl;
  ended = refl;
  ended_twice = refl;
  comment = refl;
  unknown = refl;
  unknown_first = refl;
  count_first = refl;
  number_first = refl;
  key_first = refl;
  mark = refl;
  from = refl;
  upto = refl;
  key_before_number = refl;
  committed = refl;
  committed_by_none = refl;
}
