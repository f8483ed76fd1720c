use Rattle.std.proofs.Common.{◌≡◌, Option, option_map, length, reverse, refl, ap, ◌∙◌, rules}
use Rattle.std.specs.Option.{unwrap_or}
use Rattle.tx_log.proofs.OpenTxReadLemmas.{depth_read}
use Rattle.tx_log.specs.Finds.{finding}
use Rattle.tx_log.specs.Log.{kept_of}
use Rattle.tx_log.specs.LogState.{LogState, tx_in}
use Rattle.tx_log.specs.Transactions.{depth_of}
use Rattle.tx_log.specs.declared.open_tx.OpenTx.{OpenTx}
use Rattle.tx_log.proofs.log.TxLog.depth.Goals as goal

pub returns-clause-value : goal.returns-clause-value
returns-clause-value c =
    let l = c.self.inside in
    let t = c.args.tx.0 in
    let read : c.map_or.result ≡ unwrap_or (option_map (λ (e : OpenTx). length e.saves.items) (option_map (λ e. e.now) c.find_open.result)) 0 = search rules in
    read ∙ ap (λ (o : Option OpenTx). unwrap_or (option_map (λ (e : OpenTx). length e.saves.items) o) 0) c.find_open.ensures
    ∙ depth_read (kept_of (reverse l.records.items)) l.txs.entries t (finding l.txs.entries t) refl
    ∙ ap (λ (s : LogState). depth_of (tx_in s t)) c.self.view_is
