use Rattle.std.proofs.Common.{◌≡◌, take}
use Rattle.btree_node.specs.Reading.{IsZero}
use Rattle.btree_node.proofs.read_first.is_zero.Given as goal

abbrev pub invariant-loop-byte : goal.invariant-loop-byte
invariant-loop-byte l = l.any ≡ 0 → IsZero (take l.byte-index l.bytes)
