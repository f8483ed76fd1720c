use Rattle.std.proofs.Common.{rules, ◌≡◌, Some, None, refl, sym, ap, ◌∙◌}
use Rattle.std.proofs.lemmas.Result.{err_from_is_err_and}
use Rattle.tx_log.specs.declared.phase.Phase.{Phase}
use Rattle.record_file.specs.Abstract.{OpenFile, phase_at}
use Rattle.record_file.specs.Steps.{active_refusal, tx_refusal}
use Rattle.record_file.proofs.MadeLemmas.{free_of, abort_made}
use Rattle.record_file.proofs.AskedLemmas.{undo_none}
use Rattle.record_file.proofs.file.RecordFile.abort.Given as given
use Rattle.record_file.proofs.file.RecordFile.abort.Goals as goal
use Rattle.record_file.proofs.file.RecordFile.abort.Goals.{After-roll_back}

-- the transaction is active
module _ (g : given.Over) (c : After-roll_back g) where
  starts : tx_refusal c.args.self.now.file c.args.tx.0 None ≡ None
  starts = ap (active_refusal None) (sym (ap (λ (s : OpenFile _). phase_at s.file c.args.tx.0) c.self.view_is) ∙ sym c.phase.ensures ∙ c.in-Some-Active.is ∙ ap (λ (p : Phase). Some p) c.in-Some-Active.field-0-is)

pub returns-in_ok-roll_back-in-Some-Active : goal.returns-in_ok-roll_back-in-Some-Active
returns-in_ok-roll_back-in-Some-Active g c =
    let first = starts g (goal.at.returns-in_ok-roll_back-in-Some-Active g c).After-roll_back in
    abort_made g.T.TableState _ _ c.args.tx _ (first, c.in_ok-roll_back-in-Some-Active.ensures.rolled) (free_of _ _ first) (search rules) (search rules) (search rules) (search rules)

-- it was stopped
pub returns-in_err-roll_back-in-Some-Active : goal.returns-in_err-roll_back-in-Some-Active
returns-in_err-roll_back-in-Some-Active g c =
    let told = err_from_is_err_and c.from_residual.result c.from_residual.ensures.1 in
    let first = starts g (goal.at.returns-in_err-roll_back-in-Some-Active g c).After-roll_back in
    abort_made g.T.TableState _ _ c.args.tx _
    (rw (told.1, told.2) (first, c.in_err-roll_back-in-Some-Active.ensures.rolled)) (free_of _ _ first) (search rules) (search rules)
    (rw (told.1, told.2) c.in_err-roll_back-in-Some-Active.ensures.damaged) (search rules)

pub returns-in-None : goal.returns-in-None
returns-in-None g c =
    abort_made g.T.TableState _ _ c.args.tx _
    (search rules) (search rules) (search rules) (search rules) (search rules)
    (undo_none g.T.TableState c.args.self.now c.args.self.now refl refl)

pub returns-in-Some-Rolling : goal.returns-in-Some-Rolling
returns-in-Some-Rolling g c =
    abort_made g.T.TableState _ _ c.args.tx _
    (search rules) (search rules) (search rules) (search rules) (search rules)
    (undo_none g.T.TableState c.args.self.now c.args.self.now refl refl)
