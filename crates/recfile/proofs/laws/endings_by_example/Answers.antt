use Rattle.std.proofs.Common.{◌≡◌, ℕ, Bool, true, false, cond, List, [], ◌∷◌, Some, sym, ap, ◌∙◌}
use Rattle.rec_types.specs.History.{Change}
use Rattle.record_file.specs.Abstract.{open_of}
use Rattle.recfile.specs.Ending.{without}
use Rattle.recfile.specs.Examples.{change, four_changes}
use Rattle.recfile.proofs.EndingLemmas.{ended_changes}
use Rattle.recfile.proofs.laws.endings_by_example.Goals as goal

pub returns-clause-taken : goal.returns-clause-taken
returns-clause-taken c = λ old first second third. ended_changes (open_of old) first second third

abbrev first_live : List Change → Bool
first_live [] = false
first_live (c ∷ h) = c.live

-- the first of the changes is no longer live
not_live : (f : ℕ → Bool) (h : List Change) → f 1 ≡ true → h ≡ four_changes → h ≡ without f h → true ≡ false
not_live f h first is taken =
    sym (ap first_live is) ∙ ap first_live (taken ∙ ap (without f) is)
    ∙ ap (λ (b : Bool). first_live (cond b (change 1 97 (Some (120 ∷ [])) false) (change 1 97 (Some (120 ∷ [])) true) ∷ [])) first

pub returns-clause-committed : goal.returns-clause-committed
returns-clause-committed c = λ old ended first is all. absurd (cc (not_live (open_of old) old.history first is all.history))
