-- How tries of an example begin, and how none does.
use Rattle.std.proofs.Common.{◌≡◌, ◌≢◌, ℕ, ◌+◌, ◌++◌, ◌⊎◌, inl, inr, ⊎_elim, List, [], ◌∷◌, zero, suc, sym, ap, arith, get_or}
use Rattle.page_store.specs.declared.step.Step.{Step}
use Rattle.page_store.specs.declared.step.Step.TheVariants.{SetPages, Write, Sync}
use Rattle.page_store.specs.Fronts.{tried, page_1_written, closed_first, marked_late, unmarked, page_1_twice}

-- a number by which the steps of the example are told apart
abbrev code : Step → ℕ
code (SetPages n) = 0
code (Write n page) = suc (n + n + n + get_or page 0 0)
code Sync = 20

abbrev pub first_of : List Step → Step
first_of [] = Sync
first_of (s ∷ steps) = s

abbrev pub rest_of : List Step → List Step
rest_of [] = []
rest_of (s ∷ steps) = steps

-- the first step of tries is the first of all
pub first_is : (one : Step) (all : List Step) (ks : List ℕ) (s : Step) (rest : List Step) → tried ks (one ∷ all) ≡ s ∷ rest → s ≡ one
first_is one all [] s rest is = absurd (cc)
first_is one all (zero ∷ ks) s rest is = first_is one all ks s rest is
first_is one all (suc k ∷ ks) s rest is = sym (ap first_of is)

-- the second one is that again, or the second of all
pub second_is : (one two : Step) (all : List Step) (ks : List ℕ) (r s : Step) (rest : List Step) → tried ks (one ∷ two ∷ all) ≡ r ∷ s ∷ rest → (s ≡ one) ⊎ (s ≡ two)
second_is one two all [] r s rest is = absurd (cc)
second_is one two all (zero ∷ ks) r s rest is = second_is one two all ks r s rest is
second_is one two all (suc zero ∷ ks) r s rest is = inl (first_is one (two ∷ all) ks s rest (ap rest_of is))
second_is one two all (suc (suc k) ∷ ks) r s rest is = inr (sym (ap (λ (steps : List Step). first_of (rest_of steps)) is))

-- a step of the example that is none of its first two is no second step
not_second : (ks : List ℕ) (s : Step) (rest : List Step) → code s ≢ 0 → code s ≢ 5 → tried ks page_1_written ≢ SetPages 2 ∷ s ∷ rest
not_second ks s rest longer mark is =
    ⊎_elim (λ (same : s ≡ SetPages 2). longer (ap code same)) (λ (same : s ≡ Write 0 (4 ∷ [])). mark (ap code same))
    (second_is (SetPages 2) (Write 0 (4 ∷ [])) (rest_of (rest_of page_1_written)) ks (SetPages 2) s rest is)

not_first : (ks : List ℕ) (s : Step) (rest : List Step) → code s ≢ 0 → tried ks page_1_written ≢ s ∷ rest
not_first ks s rest longer is = longer (ap code (first_is (SetPages 2) (rest_of page_1_written) ks s rest is))

pub never_unmarked : (ks : List ℕ) (more : List Step) → tried ks page_1_written ≢ unmarked ++ more
never_unmarked ks more = not_second ks (Write 1 (3 ∷ [])) more (λ e. absurd (omega (arith, e))) (λ e. absurd (omega (arith, e)))

pub tried_never_marked_late : (ks : List ℕ) (more : List Step) → tried ks page_1_written ≢ marked_late ++ more
tried_never_marked_late ks more = never_unmarked ks (rest_of (rest_of marked_late) ++ more)

pub tried_never_closed_first : (ks : List ℕ) (more : List Step) → tried ks page_1_written ≢ closed_first ++ more
tried_never_closed_first ks more = not_second ks (Write 0 (5 ∷ [])) (rest_of (rest_of closed_first) ++ more) (λ e. absurd (omega (arith, e))) (λ e. absurd (omega (arith, e)))

pub never_twice : (ks : List ℕ) (more : List Step) → tried ks page_1_written ≢ page_1_twice ++ more
never_twice [] more is = absurd (cc)
never_twice (zero ∷ ks) more is = never_twice ks more is
never_twice (suc zero ∷ ks) more is =
    not_first ks (Write 0 (4 ∷ [])) (Sync ∷ Write 1 (3 ∷ []) ∷ Write 1 (3 ∷ []) ∷ more) (λ e. absurd (omega (arith, e))) (ap rest_of is)
never_twice (suc (suc zero) ∷ ks) more is =
    not_first ks Sync (Write 1 (3 ∷ []) ∷ Write 1 (3 ∷ []) ∷ more) (λ e. absurd (omega (arith, e))) (ap (λ (steps : List Step). rest_of (rest_of steps)) is)
never_twice (suc (suc (suc zero)) ∷ ks) more is =
    not_first ks (Write 1 (3 ∷ [])) (Write 1 (3 ∷ []) ∷ more) (λ e. absurd (omega (arith, e))) (ap (λ (steps : List Step). rest_of (rest_of (rest_of steps))) is)
never_twice (suc (suc (suc (suc zero))) ∷ ks) more is =
    not_first ks (Write 1 (3 ∷ [])) more (λ e. absurd (omega (arith, e))) (ap (λ (steps : List Step). rest_of (rest_of (rest_of (rest_of steps)))) is)
never_twice (suc (suc (suc (suc (suc k)))) ∷ ks) more is =
    let e : ◌≡◌ {A = ℕ} 20 7 = ap (λ (steps : List Step). code (first_of (rest_of (rest_of (rest_of (rest_of steps)))))) is in absurd (omega (arith, e))
