use Rattle.std.proofs.Common.{◌∙◌, arith}
use Rattle.std.proofs.lemmas.Grind.{common_steps}
use Rattle.page_store.proofs.SlotLemmas.{slots_kept}
use Rattle.page_store.proofs.slot.make_slots.Goals as goal

pub returns-in_err-push-clause-same : goal.returns-in_err-push-clause-same
returns-in_err-push-clause-same c = λ n. slots_kept _ c.loop.changed.items c.push.new.self.items n c.push.ensures.items ∙ c.loop.invariant.same n

pub loop-preserved : goal.loop-preserved
loop-preserved c = record {
  same = λ n. slots_kept _ c.loop.changed.items c.push.new.self.items n c.push.ensures.items ∙ c.loop.invariant.same n;
  long = grind (arith, common_steps);
}
