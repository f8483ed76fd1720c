use Rattle.std.proofs.Common.{◌+◌, reverse, sym, ap, ◌∙◌}
use Rattle.std.proofs.lemmas.List.{length-reverse}
use Rattle.tx_log.proofs.KeptLogLemmas.{state_use}
use Rattle.tx_log.specs.LogState.{LogState, use_in}
use Rattle.tx_log.proofs.log.TxLog.log_use.Goals as goal

pub returns-clause-value : goal.returns-clause-value
returns-clause-value c =
    let l = c.self.inside in
    ap (λ n. n + l.pending) (c.len.ensures ∙ sym (length-reverse l.records.items)) ∙ sym (state_use (reverse l.records.items) l.txs.entries l.begun l.pending l.gone c.self.invariant.log_kept) ∙ ap (λ (s : LogState). use_in s) c.self.view_is
