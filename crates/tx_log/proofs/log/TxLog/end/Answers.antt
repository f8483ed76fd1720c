use Rattle.tx_log.proofs.EndLemmas.{active_open}
use Rattle.tx_log.specs.LogState.{tx_in}
use Rattle.tx_log.proofs.log.TxLog.end.Goals as goal

pub close-requires : goal.close-requires
close-requires c = active_open (tx_in c.args.self.now c.args.tx.0) c.requires

pub returns-clause-after : goal.returns-clause-after
returns-clause-after c = c.close.ensures.after
