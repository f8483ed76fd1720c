use Rattle.std.proofs.Common.{rules}
use Rattle.tx_log.proofs.open_tx.recount.Goals as goal

pub returns-in-true-false : goal.returns-in-true-false
returns-in-true-false c = search rules
