use Rattle.std.proofs.Common.{arith}
use Rattle.std.proofs.lemmas.Grind.{common_steps}
use Rattle.rec_types.proofs.TagLemmas.{bytes_more}
use Rattle.rec_types.proofs.key_order.tags_of.Goals as goal

pub loop-place-preserved : goal.loop-place-preserved
loop-place-preserved c = (grind (arith, common_steps, c.loop-place.invariant.0), bytes_more c.args.keys.now c.loop-place.place _ c.loop-place.invariant.1 (omega arith) c.index-keys-place.is c.tag.ensures.bytes)
