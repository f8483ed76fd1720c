use Rattle.std.proofs.Common.{◌≡◌, List, [], ◌∷◌, ◌++◌, length, filter, slice_get, Some, None, refl, sym, ap, ◌∙◌, arith}
use Rattle.std.proofs.lemmas.List.{append-nil, append_cancel_left}
use Rattle.rec_types.specs.History.{Change, taken_back}
use Rattle.tx_log.specs.Log.{tells_change}
use Rattle.tx_log.specs.LogLaws.{undoes}
use Rattle.tx_log.specs.declared.log_record.LogRecord.{LogRecord}
use Rattle.tx_log.specs.declared.log_record.LogRecord.TheVariants.{Update}
use Rattle.record_file.specs.Exact.{one}
use Rattle.record_file.specs.Undo.{wrote}
use Rattle.record_file.specs.Abstract.{File}
use Rattle.record_file.proofs.CompensatedOnceLemmas.{compensates_once, run_compensates}
use Rattle.record_file.proofs.laws.compensated_once.Goals as goal

pub returns-clause-step : goal.returns-clause-step
returns-clause-step c = compensates_once

pub returns-clause-run : goal.returns-clause-run
returns-clause-run c = run_compensates

pub returns-clause-rollback_to : goal.returns-clause-rollback_to
returns-clause-rollback_to c = λ old new failed refused t n undone step. ap (λ (f : File). f.history) step.happens.answer.1.rolled.1.1

pub returns-clause-abort : goal.returns-clause-abort
returns-clause-abort c = λ old new failed refused t undone step. ap (λ (f : File). f.history) step.happens.answer.1.rolled.1.1

pub returns-clause-resume : goal.returns-clause-resume
returns-clause-resume c = λ old new failed refused t undone step. ap (λ (f : File). f.history) step.happens.answer.1.rolled.1.1

pub returns-clause-twice : goal.returns-clause-twice
returns-clause-twice c = λ sound m f exact. absurd (omega (arith, exact.compensated [] _ _ refl refl))

pub returns-clause-claim_twice : goal.returns-clause-claim_twice
returns-clause-claim_twice c = λ sound m f exact. absurd (omega (arith, exact.compensated [] _ _ refl refl))

pub returns-clause-unlogged : goal.returns-clause-unlogged
returns-clause-unlogged c = λ old new logged same was is once.
    unlogged old.log new.log once.0 logged same once.1
    (once.2 0 (Update 1 0 one (97 ∷ []) None (Some (120 ∷ []))) (wrote 1 97 120) (taken_back (wrote 1 97 120))
    (ap (λ (rs : List LogRecord). slice_get (filter tells_change rs) 0) logged) (ap (λ (h : List Change). slice_get h 0) was) (ap (λ (h : List Change). slice_get h 0) is))
  where
    unlogged : (old new more : List LogRecord) → old ≡ Update 1 0 one (97 ∷ []) None (Some (120 ∷ [])) ∷ [] → new ≡ old → new ≡ old ++ more → length (filter (undoes (Update 1 0 one (97 ∷ []) None (Some (120 ∷ [])))) more) ≡ 1 → ⊥
    unlogged old new more logged same grown one_more =
        let none : more ≡ [] = append_cancel_left old more [] (sym grown ∙ same ∙ sym (append-nil old)) in
        absurd (cc (sym (ap (λ (rs : List LogRecord). length (filter (undoes (Update 1 0 one (97 ∷ []) None (Some (120 ∷ [])))) rs)) none) ∙ one_more))
