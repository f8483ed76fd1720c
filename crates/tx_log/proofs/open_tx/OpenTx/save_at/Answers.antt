use Rattle.std.proofs.Common.{◌<◌, List, ℕ, ◌-◌, get_or, sym, ap, ◌∙◌, arith}
use Rattle.tx_log.proofs.LogIndex.{place_in-at}
use Rattle.tx_log.proofs.open_tx.OpenTx.save_at.Goals as goal

pub returns-else-n-eq0 : goal.returns-else-n-eq0
returns-else-n-eq0 c =
    let saves = c.args.self.now.saves.items in
    let some : 0 < c.args.n = let no = c.if-n-eq0.false in omega arith in
    ap (λ (xs : List ℕ). get_or xs (c.args.n - 1) 0) c.deref.ensures.0 ∙ sym (place_in-at saves c.args.n 0 some c.requires)
