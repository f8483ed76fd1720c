use Rattle.std.proofs.Common.{◌≡◌, ◌≤◌, ◌++◌, length}
use Rattle.percent_encoding.specs.Percent.{percent_decode}
use Rattle.percent_encoding.specs.Iter.{decoded_bytes}
use Rattle.command_text.proofs.argument.decoded.Given as goal

-- the bytes so far, and those that are left
abbrev pub invariant-loop-byte : goal.invariant-loop-byte
invariant-loop-byte g l = record {
  can_next : (goal.iterator-loop-byte g).can_next l.byte-iterator;
  is_finite : (goal.iterator-loop-byte g).is_finite l.byte-iterator;
  read : l.bytes.items ++ decoded_bytes l.byte-iterator ≡ percent_decode l.word;
  fits : length l.bytes.items ≤ g.row.N;
}
