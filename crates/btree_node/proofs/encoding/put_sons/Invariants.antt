use Rattle.std.proofs.Common.{◌≡◌, ◌+◌, ◌*◌, ◌++◌, length, take}
use Rattle.btree_node.specs.Spelling.{sons_bytes}
use Rattle.btree_node.proofs.encoding.put_sons.Given as goal

abbrev pub invariant-loop-son : goal.invariant-loop-son
invariant-loop-son l = record {
  items : l.page ≡ l.fn.page ++ sons_bytes (take l.son-index l.sons);
  len : length l.page ≡ length l.fn.page + 4 * l.son-index;
}
