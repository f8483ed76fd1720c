use Rattle.std.proofs.Common.{arith}
use Rattle.rec_types.proofs.KeyOrderLemmas.{pairs_more}
use Rattle.rec_types.proofs.sorted_table.copied.Goals as goal

pub loop-place-preserved : goal.loop-place-preserved
loop-place-preserved c = pairs_more c.args.records.now c.args.places.now c.loop-place.place-index c.loop-place.list.items c.push_at.new.list.items (omega arith) c.loop-place.invariant c.in_ok-push_at.ensures
