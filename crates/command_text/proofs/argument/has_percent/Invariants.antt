use Rattle.std.proofs.Common.{◌≡◌, take}
use Rattle.std.specs.List.{list_any}
use Rattle.command_text.specs.Words.{is_percent}
use Rattle.command_text.proofs.argument.has_percent.Given as goal

abbrev pub invariant-loop-byte : goal.invariant-loop-byte
invariant-loop-byte l = l.found ≡ list_any is_percent (take l.byte-index l.word)
