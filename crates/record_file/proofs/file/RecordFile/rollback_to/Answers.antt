use Rattle.std.proofs.Common.{rules, ◌≡◌, ◌≤◌, Some, None, refl, sym, ap, subst, ◌∙◌}
use Rattle.std.proofs.lemmas.Result.{err_from_is_err_and}
use Rattle.tx_log.specs.Transactions.{depth_of}
use Rattle.tx_log.specs.declared.phase.Phase.{Phase}
use Rattle.record_file.specs.Abstract.{OpenFile, phase_at, tx_of}
use Rattle.record_file.specs.Steps.{returning_refusal}
use Rattle.record_file.proofs.RollbackLemmas.{rollback_starts}
use Rattle.record_file.proofs.MadeLemmas.{free_of, rollback_made}
use Rattle.record_file.proofs.AskedLemmas.{undo_none}
use Rattle.record_file.proofs.file.RecordFile.rollback_to.Given as given
use Rattle.record_file.proofs.file.RecordFile.rollback_to.Goals as goal
use Rattle.record_file.proofs.file.RecordFile.rollback_to.Goals.{After-roll_back}

-- the transaction is active, and has the savepoint
module _ (g : given.Over) (c : After-roll_back g) where
  starts : returning_refusal c.args.self.now.file c.args.tx.0 c.args.n ≡ None
  starts =
      let active = sym (ap (λ (s : OpenFile _). phase_at s.file c.args.tx.0) c.self.view_is) ∙ sym c.phase.ensures ∙ c.in-Some-Active.is ∙ ap (λ (p : Phase). Some p) c.in-Some-Active.field-0-is in
      rollback_starts c.args.self.now.file c.args.tx.0 c.args.n active (subst (λ k. c.args.n ≤ k) (c.depth.ensures.value ∙ ap (λ (s : OpenFile _). depth_of (tx_of s.file c.args.tx.0)) c.self.view_is) c.if-n-depth.false)

pub returns-in_ok-roll_back-in-Some-Active : goal.returns-in_ok-roll_back-in-Some-Active
returns-in_ok-roll_back-in-Some-Active g c =
    let first = starts g (goal.at.returns-in_ok-roll_back-in-Some-Active g c).After-roll_back in
    rollback_made g.T.TableState _ _ c.args.tx c.args.n _ (first, c.in_ok-roll_back-in-Some-Active.ensures.rolled) (free_of _ _ first) (search rules) (search rules) (search rules) (search rules)

-- it was stopped
pub returns-in_err-roll_back-in-Some-Active : goal.returns-in_err-roll_back-in-Some-Active
returns-in_err-roll_back-in-Some-Active g c =
    let told = err_from_is_err_and c.from_residual.result c.from_residual.ensures.1 in
    let first = starts g (goal.at.returns-in_err-roll_back-in-Some-Active g c).After-roll_back in
    rollback_made g.T.TableState _ _ c.args.tx c.args.n _
    (rw (told.1, told.2) (first, c.in_err-roll_back-in-Some-Active.ensures.rolled)) (free_of _ _ first) (search rules) (search rules)
    (rw (told.1, told.2) c.in_err-roll_back-in-Some-Active.ensures.damaged) (search rules)

pub returns-in-None : goal.returns-in-None
returns-in-None g c =
    rollback_made g.T.TableState _ _ c.args.tx c.args.n _
    (search rules) (search rules) (search rules) (search rules) (search rules)
    (undo_none g.T.TableState c.args.self.now c.args.self.now refl refl)

pub returns-in-Some-Rolling : goal.returns-in-Some-Rolling
returns-in-Some-Rolling g c =
    rollback_made g.T.TableState _ _ c.args.tx c.args.n _
    (search rules) (search rules) (search rules) (search rules) (search rules)
    (undo_none g.T.TableState c.args.self.now c.args.self.now refl refl)

pub returns-then-n-depth : goal.returns-then-n-depth
returns-then-n-depth g c =
    rollback_made g.T.TableState _ _ c.args.tx c.args.n _
    (search rules) (search rules) (search rules) (search rules) (search rules)
    (undo_none g.T.TableState c.args.self.now c.args.self.now refl refl)
