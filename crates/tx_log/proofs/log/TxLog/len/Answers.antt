use Rattle.std.proofs.Common.{reverse, sym, ap, ◌∙◌}
use Rattle.std.proofs.lemmas.List.{length-reverse}
use Rattle.rec_types.specs.History.{log_len}
use Rattle.tx_log.specs.LogState.{LogState, history_in}
use Rattle.tx_log.proofs.log.TxLog.len.Goals as goal
use Rattle.tx_log.proofs.Counts.{log_len_is}

pub returns : goal.returns
returns c =
    let l = c.self.inside in
    c.len.ensures ∙ sym (length-reverse l.records.items) ∙ sym (log_len_is (reverse l.records.items) c.self.invariant.log_kept.written) ∙ ap (λ (s : LogState). log_len (history_in s)) c.self.view_is
