use Rattle.std.proofs.Common.{◌≡◌, Option, option_map, reverse, refl, ap, ◌∙◌, rules}
use Rattle.std.specs.Option.{unwrap_or}
use Rattle.tx_log.proofs.OpenTxReadLemmas.{left_read}
use Rattle.tx_log.specs.Finds.{finding}
use Rattle.tx_log.specs.LogState.{LogState, tx_in, history_in}
use Rattle.tx_log.specs.Transactions.{left_in}
use Rattle.tx_log.specs.declared.open_tx.OpenTx.{OpenTx}
use Rattle.tx_log.proofs.log.TxLog.left.Goals as goal

pub returns : goal.returns
returns c =
    let l = c.self.inside in
    let t = c.args.tx.0 in
    let read : c.map_or.result ≡ unwrap_or (option_map (λ (e : OpenTx). e.left) (option_map (λ e. e.now) c.find_open.result)) 0 = search rules in
    read ∙ ap (λ (o : Option OpenTx). unwrap_or (option_map (λ (e : OpenTx). e.left) o) 0) c.find_open.ensures
    ∙ left_read (reverse l.records.items) l.txs.entries l.begun l.pending l.gone t (finding l.txs.entries t) c.self.invariant.log_kept refl
    ∙ ap (λ (s : LogState). left_in (history_in s) t (tx_in s t)) c.self.view_is
