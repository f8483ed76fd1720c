use Rattle.btree_node.specs.Reading.{RecordLengths}
use Rattle.btree_node.proofs.decoding.record_lengths_fit.Given as goal

abbrev pub invariant-loop-i : goal.invariant-loop-i
invariant-loop-i l = RecordLengths l.layout l.page l.i
