use Rattle.std.proofs.Common.{sym, ◌∙◌}
use Rattle.tx_log.proofs.PlaceOf.{first_found}
use Rattle.tx_log.proofs.open_tx.find_open.Goals as goal

pub returns-then-eq : goal.returns-then-eq
returns-then-eq c = first_found c.args.txs.now.entries c.args.tx.0 c.in-Some.first.now c.in-Some.open_tx.now c.in-Some.ensures.entry (sym c.eq.ensures ∙ c.if-eq.true)
