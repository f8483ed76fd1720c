use Rattle.btree_node.specs.Reading.{KeyLengths}
use Rattle.btree_node.proofs.decoding.key_lengths_fit.Given as goal

abbrev pub invariant-loop-i : goal.invariant-loop-i
invariant-loop-i l = KeyLengths l.layout l.page l.i
