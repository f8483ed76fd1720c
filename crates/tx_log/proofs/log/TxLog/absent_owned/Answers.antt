use Rattle.std.proofs.Common.{ℕ, Bool, reverse, sym, ap, ◌∙◌}
use Rattle.std.specs.FinMap as maps
use Rattle.tx_log.proofs.OpenTxLemmas.{opens_is}
use Rattle.tx_log.specs.Log.{kept_of}
use Rattle.tx_log.specs.LogState.{LogState, open_in}
use Rattle.tx_log.specs.Owners.{keys_absent}
use Rattle.tx_log.proofs.KeptLogLemmas.{kept_now}
use Rattle.tx_log.proofs.log.TxLog.absent_owned.Goals as goal

pub returns-clause-value : goal.returns-clause-value
returns-clause-value c =
    let l = c.self.inside in
    let cs = kept_of (reverse l.records.items) in
    c.self.invariant.log_kept.absent_is
    ∙ ap (λ (o : ℕ → Bool). maps.len (keys_absent o cs)) (sym (opens_is cs l.txs.entries))
    ∙ ap (λ (s : LogState). maps.len (keys_absent (open_in s) s.changes)) c.self.view_is

pub returns-clause-log : goal.returns-clause-log
returns-clause-log c = kept_now c.self.inside c.self.invariant _ c.self.view_is
