use Rattle.std.proofs.Common.{◌≡◌, ℕ, Bool, true, false, ◌||◌, is_some, Result, Ok, Err, sym, ap, ◌∙◌, arith}
use Rattle.std.proofs.lemmas.Bool.{false≢true}
use Rattle.std.specs.Result.{is_err}
use Rattle.recfile.specs.Statuses.{exit_status_of}
use Rattle.recfile.specs.Streams.{CallsMade, TellsFailed, run_read_fault, run_write_fault}
use Rattle.recfile.specs.declared.script.RunFault.{RunFault}
use Rattle.recfile.proofs.laws.failed_calls_are_told.Goals as goal

none_failed : (end_stopped file_fault : Bool) (answer : Result ℕ RunFault) (before after : CallsMade) → 0 ≡ exit_status_of end_stopped file_fault (is_err answer)
    → TellsFailed before (run_read_fault answer) (run_write_fault answer) after
    → (after.read_failed ≡ before.read_failed) × (after.write_failed ≡ before.write_failed)
none_failed true file_fault answer before after status failed = absurd (omega (arith, status))
none_failed false true answer before after status failed = absurd (omega (arith, status))
none_failed false false (Err fault) before after status failed = absurd (omega (arith, status))
none_failed false false (Ok done) before after status failed = (failed.read, failed.written)

pub returns-clause-unfailed : goal.returns-clause-unfailed
returns-clause-unfailed c = λ manner left leaves held holds before after old unclosed run.
    none_failed (is_err run.ended) (is_some unclosed) run.answer before after run.status_is run.failed

pub returns-clause-made_up : goal.returns-clause-made_up
returns-clause-made_up c = λ answer is failed.
    absurd (false≢true (failed.read ∙ ap (λ (a : Result ℕ RunFault). run_read_fault a || false) is))

pub returns-clause-hidden : goal.returns-clause-hidden
returns-clause-hidden c = λ answer done is failed.
    absurd (false≢true (sym (failed.written ∙ ap (λ (a : Result ℕ RunFault). run_write_fault a || false) is)))
