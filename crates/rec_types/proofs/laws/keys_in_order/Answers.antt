use Rattle.std.proofs.Common.{◌≡◌, ◌+◌, ◌<◌, ◌≤◌, ℕ, zero, suc, List, [], ◌∷◌, false, is_lt, get_or, nat_cmp, refl, sym, arith}
use Rattle.std.proofs.lemmas.Bool.{false≢true}
use Rattle.std.specs.Cmp.Lexicographic.{slice_cmp}
use Rattle.std.proofs.lemmas.List.Sorted.{IsPermutation-append_comm, sum_by-IsPermutation}
use Rattle.rec_types.proofs.laws.keys_in_order.Goals as goal

abbrev in_order : List (List ℕ)
in_order = (97 ∷ []) ∷ (97 ∷ 98 ∷ []) ∷ (98 ∷ []) ∷ []

rising : (k : ℕ) (d : List ℕ) → 0 ≤ k → k + 1 < 3 → is_lt (slice_cmp nat_cmp (get_or in_order (k + 1) d) (get_or in_order k d)) ≡ false
rising zero d some more = refl
rising (suc zero) d some more = refl
rising (suc (suc k)) d some more = absurd (omega (arith, more))

pub returns-clause-order : goal.returns-clause-order
returns-clause-order c = record { all = IsPermutation-append_comm (0 ∷ []) (1 ∷ 2 ∷ []); sorted = rising }

pub returns-clause-unsorted : goal.returns-clause-unsorted
returns-clause-unsorted c = λ is. absurd (false≢true (sym (is.sorted 1 [] (omega arith) (omega arith))))

-- the places have another sum
pub returns-clause-twice : goal.returns-clause-twice
returns-clause-twice c = λ is. absurd (omega (arith, sum_by-IsPermutation (λ (place : ℕ). place) _ _ is.all))

-- there is one less
pub returns-clause-left_out : goal.returns-clause-left_out
returns-clause-left_out c = λ is. absurd (omega (arith, sum_by-IsPermutation (λ (place : ℕ). 1) _ _ is.all))

abbrev first_two : List (List ℕ)
first_two = (97 ∷ []) ∷ (98 ∷ []) ∷ []

first_rising : (k : ℕ) (d : List ℕ) → 0 ≤ k → k + 1 < 2 → is_lt (slice_cmp nat_cmp (get_or first_two (k + 1) d) (get_or first_two k d)) ≡ false
first_rising zero d some more = refl
first_rising (suc k) d some more = absurd (omega (arith, more))

pub returns-clause-first : goal.returns-clause-first
returns-clause-first c = record { few = omega arith; order = record { all = IsPermutation-append_comm (0 ∷ []) (1 ∷ []); sorted = first_rising } }

-- the places have another sum
pub returns-clause-other : goal.returns-clause-other
returns-clause-other c = λ is. absurd (omega (arith, sum_by-IsPermutation (λ (place : ℕ). place) _ _ is.order.all))
