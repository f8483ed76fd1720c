use Rattle.std.proofs.Common.{rules}
use Rattle.tx_log.proofs.log.TxLog.can_accept.Goals as goal

pub returns : goal.returns
returns c = search rules
