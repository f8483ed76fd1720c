use Rattle.std.proofs.Common.{◌≡◌, ◌++◌, take}
use Rattle.std.specs.List.{flat_map}
use Rattle.std.specs.String.{string_bytes}
use Rattle.command_text.specs.Texts.{key_line}
use Rattle.command_text.proofs.reply.push_lines_of_keys.Given as goal

abbrev pub invariant-loop-key : goal.invariant-loop-key
invariant-loop-key l = string_bytes l.text ≡ string_bytes l.fn.text ++ flat_map key_line (take l.key-index l.keys)
