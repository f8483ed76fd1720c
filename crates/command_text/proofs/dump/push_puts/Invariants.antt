use Rattle.std.proofs.Common.{◌≡◌, ◌++◌, take}
use Rattle.std.specs.List.{All, flat_map}
use Rattle.std.specs.String.{string_bytes}
use Rattle.command_text.specs.Dump.{put_line, CanBePut}
use Rattle.command_text.proofs.dump.push_puts.Given as goal

abbrev pub invariant-loop-entry : goal.invariant-loop-entry
invariant-loop-entry l = record {
  text : string_bytes l.text ≡ string_bytes l.fn.text ++ flat_map put_line (take l.entry-index l.records);
  puts : All CanBePut (take l.entry-index l.records);
}
