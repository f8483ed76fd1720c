use Rattle.std.proofs.Common.{arith}
use Rattle.std.proofs.lemmas.Grind.{elements}
use Rattle.tx_log.proofs.log.TxLog.entry_at.Goals as goal

pub returns : goal.returns
returns c = grind (arith, elements)
