use Rattle.std.proofs.Common.{Option, sym, ap, subst, ◌∙◌}
use Rattle.rec_types.specs.Table.{counted}
use Rattle.record_file.specs.Runs.{seen}
use Rattle.record_file.specs.declared.fault.Cause.{Cause}
use Rattle.recfile.specs.Ending.{EndingAsks, end_cause}
use Rattle.recfile.proofs.AskingLemmas.{aborted_cause}
use Rattle.recfile.proofs.endings.give_up.Goals as goal

pub returns-clause-step : goal.returns-clause-step
returns-clause-step g c = (c.abort.result, c.aborted.ensures, c.abort.ensures.happens.answer.1.rolled)

pub returns-clause-asks : goal.returns-clause-asks
returns-clause-asks g c =
    let told = c.abort.ensures.happens in
    subst (λ (cause : Option Cause). EndingAsks (seen g.T.TableState c.args.file.now) cause (seen g.T.TableState c.abort.new.self)) (aborted_cause c.args.tx c.abort.result ∙ ap end_cause (sym c.aborted.ensures))
    (record { failures = told.failures; refusals = told.refusals ∙ ap (counted (g.T.TableState.memory_refusals c.args.file.now.table)) told.answer.0.1; damages = told.answer.1.damages; sound = told.sound; told = told.told; opening = told.answer.1.opening; caused = λ sound few fewer. (told.answer.1.step sound few fewer).2; asked = told.answer.1.asks })

pub returns-clause-origin : goal.returns-clause-origin
returns-clause-origin g c = c.abort.ensures.origin
