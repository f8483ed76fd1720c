use Rattle.std.proofs.Common.{arith}
use Rattle.std.proofs.lemmas.Grind.{common_steps}
use Rattle.page_store.proofs.InPlaceLemmas.{slots_set}
use Rattle.page_store.proofs.slot.write_one_over.Goals as goal

pub returns-in-Some : goal.returns-in-Some
returns-in-Some c = slots_set c.args.changed.now.items c.args.n _

pub returns-in-None : goal.returns-in-None
returns-in-None c = grind (arith, common_steps)
