use Rattle.std.proofs.Common.{◌≡◌, option_map, reverse, refl, ap, ◌∙◌, rules}
use Rattle.tx_log.proofs.OpenTxReadLemmas.{phase_read}
use Rattle.tx_log.specs.Finds.{finding}
use Rattle.tx_log.specs.Log.{kept_of}
use Rattle.tx_log.specs.LogState.{LogState, phase_in, rollback_phase}
use Rattle.tx_log.specs.declared.open_tx.OpenTx.{OpenTx}
use Rattle.tx_log.proofs.log.TxLog.phase.Goals as goal

pub returns : goal.returns
returns c =
    let l = c.self.inside in
    let t = c.args.tx.0 in
    let read : c.map.result ≡ option_map (λ (e : OpenTx). rollback_phase e.rollback) (option_map (λ e. e.now) c.find_open.result) = search rules in
    read ∙ ap (option_map (λ (e : OpenTx). rollback_phase e.rollback)) c.find_open.ensures
    ∙ phase_read (kept_of (reverse l.records.items)) l.txs.entries t (finding l.txs.entries t) refl
    ∙ ap (λ (s : LogState). phase_in s t) c.self.view_is
