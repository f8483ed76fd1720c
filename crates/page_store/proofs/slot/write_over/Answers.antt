use Rattle.std.proofs.Common.{[], take, arith}
use Rattle.std.proofs.lemmas.Grind.{elements}
use Rattle.page_store.specs.Overlaid.{slots_of}
use Rattle.page_store.proofs.InPlaceLemmas.{some_stays, more_written, more_taken}
use Rattle.page_store.proofs.slot.write_over.Goals as goal

pub write_one_over-requires : goal.write_one_over-requires
write_one_over-requires c =
    rw c.loop-n.invariant.slots (some_stays (slots_of c.args.changed.now.items) (take c.loop-n.n-index c.args.writes.now) _ (c.requires c.loop-n.n-index (0, []) c.loop-n-test.true))

pub loop-n-preserved : goal.loop-n-preserved
loop-n-preserved c = record {
  slots = more_written (slots_of c.args.changed.now.items) _ _ c.args.writes.now c.loop-n.n-index c.loop-n-test.true c.loop-n.invariant.slots c.write_one_over.ensures;
  free = λ q. more_taken c.args.writes.now c.loop-n.n-index q _ _ _ c.loop-n-test.true (c.remove.ensures.updates.0 q) (c.loop-n.invariant.free q);
}

pub returns-clause-slots : goal.returns-clause-slots
returns-clause-slots c = grind (arith, elements)

pub returns-clause-free : goal.returns-clause-free
returns-clause-free c = grind (arith, elements)
