use Rattle.std.proofs.Common.{take}
use Rattle.btree_insert.proofs.walking.tell_elements.Given as goal

-- those before it were told
abbrev pub invariant-loop-key : goal.invariant-loop-key
invariant-loop-key g l = g.K.RecordSink.told l.initial.sink l.initial.out (take l.key-index l.elements) l.sink l.out
