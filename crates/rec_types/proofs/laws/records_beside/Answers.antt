use Rattle.std.proofs.Common.{◌≡◌, ℕ, List, [], ◌∷◌, Option, Some, None, length, ap, subst, ◌∙◌, arith}
use Rattle.std.specs.FinMap.{entries-from_sorted}
use Rattle.std.specs.Ordering.{nat_cmp}
use Rattle.std.specs.Cmp.Lexicographic.{slice_cmp}
use Rattle.rec_types.specs.Sorted.{Pairs}
use Rattle.rec_types.specs.Ordered.{is_left, nearest, beside, IsNextBeside, at_a_ab_and_b, in_turn, all_beside}
use Rattle.rec_types.specs.declared.gap.Gap.{Gap}
use Rattle.rec_types.specs.declared.gap.Gap.TheVariants as gaps
use Rattle.rec_types.specs.declared.side.Side.{Side}
use Rattle.rec_types.specs.declared.side.Side.TheVariants.{After, Before}
use Rattle.rec_types.proofs.BesideLemmas.{beside_next, next_one}
use Rattle.rec_types.proofs.InTurnLemmas.{walked_all, all_from_start, all_from_end, first_is_beside}
use Rattle.rec_types.proofs.laws.records_beside.Goals as goal

abbrev three : Pairs
three = (97 ∷ [], 120 ∷ []) ∷ (97 ∷ 98 ∷ [], []) ∷ (98 ∷ [], 121 ∷ []) ∷ []

-- the record beside a gap, by the list
by_list : (side : Side) (gap : Gap) → beside side at_a_ab_and_b gap ≡ nearest side (is_left gap) three None
unfolding beside
by_list side gap = ap (λ (es : Pairs). nearest side (is_left gap) es None) (entries-from_sorted (slice_cmp nat_cmp) three tt)

is_one : (side : Side) (gap : Gap) (found : Option (List ℕ × List ℕ)) → IsNextBeside side at_a_ab_and_b gap found → found ≡ nearest side (is_left gap) three None
is_one side gap found is = next_one side at_a_ab_and_b gap found (beside side at_a_ab_and_b gap) is (beside_next side at_a_ab_and_b gap) ∙ by_list side gap

-- what the key begins with, and how long it is
abbrev first_byte : Option (List ℕ × List ℕ) → ℕ
first_byte None = 0
first_byte (Some ([], r)) = 0
first_byte (Some (x ∷ xs, r)) = x

abbrev key_length : Option (List ℕ × List ℕ) → ℕ
key_length None = 0
key_length (Some e) = length e.0

pub returns-clause-next : goal.returns-clause-next
returns-clause-next c = λ side m gap. beside_next side m gap

pub returns-clause-one : goal.returns-clause-one
returns-clause-one c = λ side m gap found is. next_one side m gap found (beside side m gap) is (beside_next side m gap)

pub returns-clause-walk : goal.returns-clause-walk
returns-clause-walk c = λ side m gap. walked_all side m gap

pub returns-clause-up : goal.returns-clause-up
returns-clause-up c = λ m. all_from_start m

pub returns-clause-down : goal.returns-clause-down
returns-clause-down c = λ m. all_from_end m

pub returns-clause-nearest : goal.returns-clause-nearest
returns-clause-nearest c = λ side m gap. first_is_beside side m gap

pub returns-clause-after : goal.returns-clause-after
returns-clause-after c = by_list After (gaps.Behind (97 ∷ []))

pub returns-clause-from : goal.returns-clause-from
returns-clause-from c = by_list After (gaps.Before (97 ∷ []))

all_by_list : (side : Side) (gap : Gap) → all_beside side at_a_ab_and_b gap ≡ in_turn side (is_left gap) three []
unfolding all_beside
all_by_list side gap = ap (λ (es : Pairs). in_turn side (is_left gap) es []) (entries-from_sorted (slice_cmp nat_cmp) three tt)

pub returns-clause-rest : goal.returns-clause-rest
returns-clause-rest c = all_by_list After (gaps.Behind (97 ∷ []))

pub returns-clause-falling : goal.returns-clause-falling
returns-clause-falling c = all_by_list Before (gaps.Before (98 ∷ []))

pub returns-clause-before : goal.returns-clause-before
returns-clause-before c = by_list Before (gaps.Before (98 ∷ []))

pub returns-clause-upto : goal.returns-clause-upto
returns-clause-upto c = by_list Before (gaps.Behind (98 ∷ []))

pub returns-clause-first : goal.returns-clause-first
returns-clause-first c = by_list After gaps.Start

pub returns-clause-last : goal.returns-clause-last
returns-clause-last c = by_list Before gaps.End

pub returns-clause-end : goal.returns-clause-end
returns-clause-end c = subst (IsNextBeside After at_a_ab_and_b (gaps.Behind (98 ∷ []))) (by_list After (gaps.Behind (98 ∷ []))) (beside_next After at_a_ab_and_b (gaps.Behind (98 ∷ [])))

pub returns-clause-far : goal.returns-clause-far
returns-clause-far c = λ is. absurd (omega (arith, ap first_byte (is_one After (gaps.Behind (97 ∷ [])) (Some (98 ∷ [], 121 ∷ [])) is)))

pub returns-clause-itself : goal.returns-clause-itself
returns-clause-itself c = λ is. absurd (omega (arith, ap key_length (is_one After (gaps.Behind (97 ∷ [])) (Some (97 ∷ [], 120 ∷ [])) is)))

pub returns-clause-nothing : goal.returns-clause-nothing
returns-clause-nothing c = λ is. absurd (omega (arith, ap key_length (is_one After (gaps.Behind (97 ∷ [])) None is)))
