use Rattle.std.proofs.Common.{Bool, if◌then◌else◌, Some, ap, ◌∙◌}
use Rattle.tx_log.proofs.HoldingLemmas.{same_bytes-key}
use Rattle.tx_log.proofs.undo_chain.older.Goals as goal

pub returns-then-eq : goal.returns-then-eq
returns-then-eq c = ap (λ (b : Bool). if b then Some c.args.change.now.before else c.args.found) (c.if-eq.ensures ∙ same_bytes-key c.args.change.now.key c.args.key.now)

pub returns-else-eq : goal.returns-else-eq
returns-else-eq c = ap (λ (b : Bool). if b then Some c.args.change.now.before else c.args.found) (c.if-eq.ensures ∙ same_bytes-key c.args.change.now.key c.args.key.now)
