use Rattle.std.proofs.Common.{rules}
use Rattle.tx_log.proofs.open_tx.OpenTx.keep_saves.Goals as goal

pub returns : goal.returns
returns c = search rules
