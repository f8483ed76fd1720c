use Rattle.std.proofs.Common.{List, ℕ, length, ap, ◌∙◌, arith}
use Rattle.std.specs.List.{list_any}
use Rattle.std.proofs.lemmas.Result.{IfOk-weaker}
use Rattle.tx_log.proofs.KeyListLemmas.{listed_are_held, owned_few}
use Rattle.tx_log.specs.Holdings.{same_bytes}
use Rattle.tx_log.proofs.holding.held_keys.Goals as goal

pub returns-then-len-open_tx-clause-held : goal.returns-then-len-open_tx-clause-held
returns-then-len-open_tx-clause-held c =
    IfOk-weaker c.owned_in.result _ _ (λ keys is q. ap (λ (ks : List (List ℕ)). list_any (same_bytes q) ks) is ∙ listed_are_held c.args.tx.0 c.args.holdings.now.entries q c.len.ensures.unique) c.owned_in.ensures

pub returns-then-len-open_tx-clause-few : goal.returns-then-len-open_tx-clause-few
returns-then-len-open_tx-clause-few c = IfOk-weaker c.owned_in.result _ _ (λ keys is. omega (arith, ap (λ (ks : List (List ℕ)). length ks) is, owned_few c.args.tx.0 c.args.holdings.now.entries, c.len.ensures.len)) c.owned_in.ensures
