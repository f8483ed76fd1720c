use Rattle.std.proofs.Common.{ℕ, [], ◌∷◌, ◌++◌, length, refl, ap, ◌∙◌, arith}
use Rattle.rec_types.specs.Sorted.{Pairs}
use Rattle.rec_types.specs.Told.{at_a_and_b}
use Rattle.rec_types.proofs.laws.records_until_a_fault.Goals as goal

-- the number of the key that stands first
abbrev first_of : Pairs → ℕ
first_of [] = 0
first_of ((x ∷ xs, r) ∷ es) = x
first_of (([], r) ∷ es) = 0

pub returns-clause-none : goal.returns-clause-none
returns-clause-none c = record { front = []; rest = at_a_and_b; whole = refl; took = refl }

pub returns-clause-first : goal.returns-clause-first
returns-clause-first c = record { front = (97 ∷ [], 120 ∷ []) ∷ []; rest = (98 ∷ [], []) ∷ []; whole = refl; took = refl }

pub returns-clause-all : goal.returns-clause-all
returns-clause-all c = record { front = at_a_and_b; rest = []; whole = refl; took = refl }

pub returns-clause-second : goal.returns-clause-second
returns-clause-second c = λ told.
    let no = ap first_of (told.whole ∙ ap (λ (xs : Pairs). xs ++ told.rest) told.took) in
    absurd (omega (arith, no))

pub returns-clause-whole : goal.returns-clause-whole
returns-clause-whole c = λ told.
    let no = ap length told in
    absurd (omega (arith, no))
