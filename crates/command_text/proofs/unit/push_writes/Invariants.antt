use Rattle.std.proofs.Common.{◌≡◌, ◌++◌, take}
use Rattle.std.specs.List.{All, flat_map}
use Rattle.std.specs.String.{string_bytes}
use Rattle.command_text.specs.Units.{write_line, CanBeWritten}
use Rattle.command_text.proofs.unit.push_writes.Given as goal

abbrev pub invariant-loop-write : goal.invariant-loop-write
invariant-loop-write l = record {
  text : string_bytes l.text ≡ string_bytes l.fn.text ++ flat_map (write_line l.number) (take l.write-index l.writes);
  can : All CanBeWritten (take l.write-index l.writes);
}
