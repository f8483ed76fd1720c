use Rattle.std.proofs.Common.{◌≡◌, length}
use Rattle.btree_node.specs.Reading.{sons_at}
use Rattle.btree_node.proofs.decoding.push_sons.Given as goal

abbrev pub invariant-loop-j : goal.invariant-loop-j
invariant-loop-j l = record { items : l.sons.items ≡ sons_at l.fn.layout l.fn.k l.page l.j; len : length l.sons.items ≡ l.j }
