use Rattle.std.proofs.Common.{rules, subst}
use Rattle.tx_log.proofs.KeptLogLemmas.{kept_now}
use Rattle.tx_log.proofs.LogLawLemmas.{is_chained}
use Rattle.tx_log.specs.LogLaws.{IsChained}
use Rattle.tx_log.specs.LogState.{LogState}
use Rattle.tx_log.proofs.log.TxLog.begun.Goals as goal

pub returns-clause-kept : goal.returns-clause-kept
returns-clause-kept c = kept_now c.self.inside c.self.invariant _ c.self.view_is

pub returns-clause-chained : goal.returns-clause-chained
returns-clause-chained c =
    let l = c.self.inside in
    subst (λ (s : LogState). IsChained s.records s.changes) c.self.view_is (is_chained l.records.items c.self.invariant.log_kept.numbered c.self.invariant.log_kept.written)

pub returns-clause-value : goal.returns-clause-value
returns-clause-value c = search rules
