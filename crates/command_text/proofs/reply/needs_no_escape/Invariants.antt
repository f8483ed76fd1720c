use Rattle.std.proofs.Common.{◌≡◌, not, take}
use Rattle.std.specs.List.{list_any}
use Rattle.command_text.specs.Texts.{is_escaped}
use Rattle.command_text.proofs.reply.needs_no_escape.Given as goal

abbrev pub invariant-loop-byte : goal.invariant-loop-byte
invariant-loop-byte l = l.plain ≡ not (list_any is_escaped (take l.byte-index l.bytes))
