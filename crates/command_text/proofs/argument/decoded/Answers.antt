use Rattle.std.proofs.Common.{arith}
use Rattle.std.proofs.lemmas.Grind.{common_steps}
use Rattle.command_text.proofs.argument.decoded.Goals as goal

pub returns-in_err-ok-clause-some : goal.returns-in_err-ok-clause-some
returns-in_err-ok-clause-some g c = grind (arith, common_steps)

pub loop-byte-preserved : goal.loop-byte-preserved
loop-byte-preserved g c = grind (arith, common_steps)
