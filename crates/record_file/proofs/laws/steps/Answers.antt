use Rattle.std.proofs.Common.{List, length, refl, ap, sym, ◌∙◌, arith}
use Rattle.rec_types.specs.History.{replay}
use Rattle.tx_log.specs.declared.log_record.LogRecord.{LogRecord}
use Rattle.std.proofs.lemmas.List.{append_cancel_left}
use Rattle.record_file.proofs.StepLemmas.{logs_each, first_lsn, first_prev}
use Rattle.record_file.proofs.laws.steps.Goals as goal

pub returns-clause-unlogged : goal.returns-clause-unlogged
returns-clause-unlogged c = λ old new failed refused t n undone step some same.
    absurd (omega (arith, logs_each old new failed refused t n undone step, some, ap (λ (rs : List LogRecord). length rs) same))

pub returns-clause-records : goal.returns-clause-records
returns-clause-records c = λ old new failed refused t n undone sound step.
    step.keeps.replayed (step.happens.sound ∙ sound) ∙ (λ i. replay (step.happens.answer.1.opening sound i) (step.happens.answer.1.rolled.1.1 i).history)

pub returns-clause-numbers : goal.returns-clause-numbers
returns-clause-numbers c = λ old new failed refused t key value before lsn prev step is.
    let same = append_cancel_left old.log _ _ (sym is ∙ step.happens.answer.1.accepted.logged) in
    (first_lsn _ _ same, first_prev _ _ same)

pub returns-clause-damaged : goal.returns-clause-damaged
returns-clause-damaged c = λ old new failed refused t n undone left page sound step. step.happens.undamaged sound page refl
