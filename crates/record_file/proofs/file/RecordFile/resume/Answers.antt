use Rattle.std.proofs.Common.{◌≡◌, rules, Some, None, refl, sym, ap, ◌∙◌}
use Rattle.std.proofs.lemmas.Result.{err_from_is_err_and}
use Rattle.tx_log.specs.declared.phase.Phase.{Phase}
use Rattle.record_file.specs.Abstract.{OpenFile, phase_at}
use Rattle.record_file.specs.Steps.{rolling_refusal, resuming_refusal}
use Rattle.record_file.proofs.MadeLemmas.{free_of, resume_made}
use Rattle.record_file.proofs.AskedLemmas.{undo_none}
use Rattle.record_file.proofs.file.RecordFile.resume.Given as given
use Rattle.record_file.proofs.file.RecordFile.resume.Goals as goal
use Rattle.record_file.proofs.file.RecordFile.resume.Goals.{After-take_back}

-- the transaction's rollback is under way
module _ (g : given.Over) (c : After-take_back g) where
  goes_on : resuming_refusal c.args.self.now.file c.args.tx.0 ≡ None
  goes_on = ap rolling_refusal (sym (ap (λ (s : OpenFile _). phase_at s.file c.args.tx.0) c.self.view_is) ∙ sym c.phase.ensures ∙ c.in-Some-Rolling.is ∙ ap (λ (p : Phase). Some p) c.in-Some-Rolling.field-0-is)

pub returns-in_ok-take_back-in-Some-Rolling : goal.returns-in_ok-take_back-in-Some-Rolling
returns-in_ok-take_back-in-Some-Rolling g c =
    let first = goes_on g (goal.at.returns-in_ok-take_back-in-Some-Rolling g c).After-take_back in
    resume_made g.T.TableState _ _ c.args.tx _ (first, c.in_ok-take_back-in-Some-Rolling.ensures.rolled) (free_of _ _ first) (search rules) (search rules) (search rules) (search rules)

-- it was stopped
pub returns-in_err-take_back-in-Some-Rolling : goal.returns-in_err-take_back-in-Some-Rolling
returns-in_err-take_back-in-Some-Rolling g c =
    let told = err_from_is_err_and c.from_residual.result c.from_residual.ensures.1 in
    let first = goes_on g (goal.at.returns-in_err-take_back-in-Some-Rolling g c).After-take_back in
    resume_made g.T.TableState _ _ c.args.tx _
    (rw (told.1, told.2) (first, c.in_err-take_back-in-Some-Rolling.ensures.rolled)) (free_of _ _ first) (search rules) (search rules)
    (rw (told.1, told.2) c.in_err-take_back-in-Some-Rolling.ensures.damaged) (search rules)

pub returns-in-None : goal.returns-in-None
returns-in-None g c =
    resume_made g.T.TableState _ _ c.args.tx _
    (search rules) (search rules) (search rules) (search rules) (search rules)
    (undo_none g.T.TableState c.args.self.now c.args.self.now refl refl)

pub returns-in-Some-Active : goal.returns-in-Some-Active
returns-in-Some-Active g c =
    resume_made g.T.TableState _ _ c.args.tx _
    (search rules) (search rules) (search rules) (search rules) (search rules)
    (undo_none g.T.TableState c.args.self.now c.args.self.now refl refl)
