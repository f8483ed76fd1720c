use Rattle.std.proofs.Common.{arith}
use Rattle.std.proofs.lemmas.Grind.{common_steps}
use Rattle.page_store.proofs.slot.boxed.Goals as goal

pub loop-n-preserved-then-is_some : goal.loop-n-preserved-then-is_some
loop-n-preserved-then-is_some c = grind (arith, common_steps)

pub loop-n-preserved : goal.loop-n-preserved
loop-n-preserved c = grind (arith, common_steps)

pub returns-clause-pages : goal.returns-clause-pages
returns-clause-pages c = grind (arith, common_steps)
