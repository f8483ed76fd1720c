use Rattle.std.proofs.Common.{◌≡◌, ◌∙◌, ℕ, ◌+◌, ◌<◌, Bool, true, false, refl, ap, arith}
use Rattle.std.proofs.lemmas.Bool.Decides.{nat_tests}
use Rattle.rec_types.specs.Table.{counted}
use Rattle.file_session.proofs.ClosingCountLemmas.{no_less, one_more}
use Rattle.recfile.proofs.laws.closings_are_counted.Goals as goal

pub returns-clause-silent : goal.returns-clause-silent
returns-clause-silent c = λ before after closed. closed.failures ∙ ap (counted before) (closed.once refl)

pub returns-clause-unfailed : goal.returns-clause-unfailed
returns-clause-unfailed c = λ before less closed.
    absurd (omega (arith, closed.failures, one_more before less, no_less (counted before true) closed.again))

pub returns-clause-twice : goal.returns-clause-twice
returns-clause-twice c = record { again = true; failures = refl; once = λ never. absurd (cc never) }

-- one call more counts one at most
one_at_most : (before after : ℕ) (again : Bool) → after ≡ counted before again → before + 1 < after → ⊥
one_at_most before after true is more = grind (arith, nat_tests)
one_at_most before after false is more = omega (arith, is, more)

pub returns-clause-thrice : goal.returns-clause-thrice
returns-clause-thrice c = λ closed. one_at_most 4 6 closed.again closed.failures (omega arith)

pub returns-clause-no_memory : goal.returns-clause-no_memory
returns-clause-no_memory c = λ closed. one_at_most 3 5 closed.again closed.failures (omega arith)
