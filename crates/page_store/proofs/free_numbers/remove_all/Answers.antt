use Rattle.std.proofs.Common.{arith}
use Rattle.std.proofs.lemmas.Grind.{elements}
use Rattle.page_store.proofs.NumberSetLemmas.{out_more}
use Rattle.page_store.proofs.free_numbers.remove_all.Goals as goal

pub loop-n-preserved : goal.loop-n-preserved
loop-n-preserved c = λ q. out_more c.args.numbers.now c.loop-n.n-index q _ _ _ c.loop-n-test.true (c.remove.ensures.updates.0 q) (c.loop-n.invariant q)

pub returns : goal.returns
returns c = grind (arith, elements)
