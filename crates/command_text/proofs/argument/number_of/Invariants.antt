use Rattle.std.proofs.Common.{◌≡◌, ◌<◌, ◌^◌, true, take}
use Rattle.std.specs.List.{list_all}
use Rattle.command_text.specs.Grammar.{is_digit}
use Rattle.command_text.proofs.NumberLemmas.{Reads}
use Rattle.command_text.proofs.argument.number_of.Given as goal

abbrev pub invariant-loop-byte : goal.invariant-loop-byte
invariant-loop-byte l = record {
  reads : Reads l.word l.byte-index l.number;
  digits : list_all is_digit (take l.byte-index l.word) ≡ true;
  small : l.number < 2 ^ 32;
}
