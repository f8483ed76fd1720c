use Rattle.std.proofs.Common.{ℕ, Bool, reverse, option_map, sym, ap, ◌∙◌}
use Rattle.rec_types.specs.Kept.{history_of}
use Rattle.rec_types.specs.declared.transaction.TxId.{TxId}
use Rattle.tx_log.proofs.HoldingLemmas.{holder_is}
use Rattle.tx_log.proofs.OpenTxLemmas.{opens_is}
use Rattle.tx_log.specs.Finds.{found}
use Rattle.tx_log.specs.Holdings.{holdings_in}
use Rattle.tx_log.specs.Log.{kept_of}
use Rattle.tx_log.specs.LogState.{LogState, open_in, history_in}
use Rattle.tx_log.specs.OpenTxs.{opens}
use Rattle.tx_log.specs.Owners.{owner_of}
use Rattle.tx_log.proofs.log.TxLog.owner.Goals as goal

pub returns : goal.returns
returns c =
    let l = c.self.inside in
    let rs = reverse l.records.items in
    let x = c.args.key.now in
    ap (option_map (λ (t : TxId). t.0)) c.find_holder.ensures
    ∙ holder_is rs (opens (found l.txs)) (holdings_in l.holdings) x c.self.invariant.log_kept.owned c.self.invariant.holding
    ∙ ap (λ (o : ℕ → Bool). owner_of o (history_of (kept_of rs)) x) (sym (opens_is (kept_of rs) l.txs.entries))
    ∙ ap (λ (s : LogState). owner_of (open_in s) (history_in s) x) c.self.view_is
