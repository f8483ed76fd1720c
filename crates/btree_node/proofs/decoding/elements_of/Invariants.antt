use Rattle.std.proofs.Common.{◌≡◌, length}
use Rattle.btree_node.specs.Reading.{elements_at}
use Rattle.btree_node.proofs.decoding.elements_of.Given as goal

abbrev pub invariant-loop-i : goal.invariant-loop-i
invariant-loop-i l = record { items : l.elements.items ≡ elements_at l.layout l.page l.i; len : length l.elements.items ≡ l.i }
