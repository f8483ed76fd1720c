use Rattle.std.proofs.Common.{rules, arith}
use Rattle.std.proofs.lemmas.Grind.{common_steps}
use Rattle.tx_log.proofs.KeptLogLemmas.{kept_now}
use Rattle.tx_log.proofs.log.TxLog.reserve.Goals as goal

pub returns-in_err-reserve-clause-kept : goal.returns-in_err-reserve-clause-kept
returns-in_err-reserve-clause-kept c = kept_now c.self.inside c.self.invariant _ c.self.view_is

pub returns-clause-kept : goal.returns-clause-kept
returns-clause-kept c = kept_now c.self.inside c.self.invariant _ c.self.view_is

pub returns-in_err-at-clause-kept : goal.returns-in_err-at-clause-kept
returns-in_err-at-clause-kept c = kept_now c.self.inside c.self.invariant _ c.self.view_is

pub invariant_of-self-2 : goal.invariant_of-self-2
invariant_of-self-2 c = search rules

pub invariant_of-self : goal.invariant_of-self
invariant_of-self c = grind (arith, common_steps)

pub invariant_of-self-in_err-at : goal.invariant_of-self-in_err-at
invariant_of-self-in_err-at c = grind (arith, common_steps)

pub returns-in_err-at-clause-err : goal.returns-in_err-at-clause-err
returns-in_err-at-clause-err c = grind (arith, common_steps)

pub returns-clause-ok : goal.returns-clause-ok
returns-clause-ok c = grind (arith, common_steps)
