use Rattle.std.proofs.Common.{sym, ◌∙◌}
use Rattle.tx_log.proofs.PlaceOf.{at_some, taken_at}
use Rattle.tx_log.proofs.open_tx.take_out.Goals as goal

pub returns : goal.returns
returns c = λ t stands.
    let p = c.unwrap-closed.result in
    taken_at c.args.txs.now c.swap_remove_index.new.self t c.args.at p stands (sym c.swap_remove_index.ensures.entry ∙ c.unwrap-closed.ensures) (at_some _ _ p c.unwrap-closed.ensures c.swap_remove_index.ensures.updates)
