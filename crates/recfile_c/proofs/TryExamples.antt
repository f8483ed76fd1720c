-- Tries to close a table of an example, and what is none.
use Rattle.std.proofs.Common.{◌≡◌, ℕ, ◌≤◌, ◌++◌, ⊎_elim, List, [], ◌∷◌, length, Option, Some, None, zero, suc, refl, sym, ap, arith, length-append}
use Rattle.page_store.specs.Journal.{Journal, noted_steps}
use Rattle.page_store.specs.declared.step.Step.{Step}
use Rattle.page_store.specs.declared.step.Step.TheVariants.{SetPages, Write, Sync}
use Rattle.page_store.specs.Fronts.{two_pages}
use Rattle.page_store.proofs.TryExamples.{first_of, rest_of, first_is, second_is}
use Rattle.btree_delete.specs.Closing.{closing}
use Rattle.btree_delete.specs.TableView.{TableView}
use Rattle.recfile_c.specs.Paged.{HasTried, IsTriedAgain}
use Rattle.recfile_c.specs.Tried.{table_over, changed_table, made_longer, made_too_long, written_unmarked, kept_first}
use Rattle.recfile_c.proofs.StepLaws.{steps_in, opened_in}
use Rattle.recfile_c.proofs.TryLemmas.{tried_again, tries_again}

-- the second call of a close of the table, and the calls after it
abbrev mark_of : TableView → Step
mark_of t = first_of (rest_of (closing t))

abbrev later_of : TableView → List Step
later_of t = rest_of (rest_of (closing t))

-- the number in a step
abbrev number_of : Step → ℕ
number_of (SetPages n) = n
number_of (Write n page) = n
number_of Sync = 0

-- 0 of a step that makes the store longer, 1 of a write, 2 of the third kind
abbrev kind_of : Step → ℕ
kind_of (SetPages n) = 0
kind_of (Write n page) = 1
kind_of Sync = 2

pub never_too_long : (ks : List ℕ) → HasTried (changed_table made_too_long) two_pages ks → ⊥
never_too_long ks has =
    let t = changed_table made_too_long in
    let e : ◌≡◌ {A = ℕ} 3 2 = ap number_of (first_is (SetPages 2) (mark_of t ∷ later_of t) ks (SetPages 3) [] (sym (ap steps_in has))) in absurd (omega (arith, e))

pub never_unmarked : (ks : List ℕ) → HasTried (changed_table written_unmarked) two_pages ks → ⊥
never_unmarked ks has =
    let t = changed_table written_unmarked in
    ⊎_elim (λ (same : Write 1 (3 ∷ []) ≡ SetPages 2). let e : ◌≡◌ {A = ℕ} 1 0 = ap kind_of same in absurd (omega (arith, e)))
    (λ (same : Write 1 (3 ∷ []) ≡ mark_of t). let e : ◌≡◌ {A = ℕ} 1 0 = ap number_of same in absurd (omega (arith, e)))
    (second_is (SetPages 2) (mark_of t) (later_of t) ks (SetPages 2) (Write 1 (3 ∷ [])) [] (sym (ap steps_in has)))

pub never_kept_first : (ks : List ℕ) → HasTried (changed_table kept_first) two_pages ks → ⊥
never_kept_first ks has =
    let t = changed_table kept_first in
    let e : ◌≡◌ {A = ℕ} 2 0 = ap kind_of (first_is (SetPages 2) (mark_of t ∷ later_of t) ks Sync [] (sym (ap steps_in has))) in absurd (omega (arith, e))

pub never_over_no_page : (steps : List Step) (ks : List ℕ) → HasTried (table_over [] steps) two_pages ks → ⊥
never_over_no_page steps ks has = let e : ◌≡◌ {A = ℕ} 0 2 = ap (λ (j : Option Journal). length (opened_in j)) has in absurd (omega (arith, e))

-- what is no try of the table is no table that was tried again
never_again : (t : TableView) → ((ks : List ℕ) → HasTried t two_pages ks → ⊥) → (n : ℕ) → IsTriedAgain n (changed_table []) t → ⊥
never_again t none n again = let has = tries_again n (changed_table []) t two_pages [] again refl in none has.0 has.1

pub never_too_long_again : (n : ℕ) → IsTriedAgain n (changed_table []) (changed_table made_too_long) → ⊥
never_too_long_again = never_again (changed_table made_too_long) never_too_long

pub never_unmarked_again : (n : ℕ) → IsTriedAgain n (changed_table []) (changed_table written_unmarked) → ⊥
never_unmarked_again = never_again (changed_table written_unmarked) never_unmarked

pub never_kept_first_again : (n : ℕ) → IsTriedAgain n (changed_table []) (changed_table kept_first) → ⊥
never_kept_first_again = never_again (changed_table kept_first) never_kept_first

pub never_over_no_page_again : (n : ℕ) → IsTriedAgain n (changed_table []) (table_over [] []) → ⊥
never_over_no_page_again = never_again (table_over [] []) (never_over_no_page [])

-- a try takes no step away
noted_longer : (j : Option Journal) (more : List Step) → length (steps_in j) ≤ length (steps_in (noted_steps j more))
noted_longer None more = omega arith
noted_longer (Some j) more = let long = length-append j.steps more in omega arith

steps_stay : (n : ℕ) (old new : TableView) → IsTriedAgain n old new → length (steps_in old.pages.journal) ≤ length (steps_in new.pages.journal)
steps_stay zero old new same = let e = ap (λ (t : TableView). length (steps_in t.pages.journal)) same in omega arith
steps_stay (suc n) old new tries =
    let more = tries.1.steps in
    let longer = noted_longer old.pages.journal more.0 in
    let e = ap (λ (j : Option Journal). length (steps_in j)) more.3 in
    let later = steps_stay n tries.0 new tries.2 in
    omega arith

pub never_fewer : (n : ℕ) → IsTriedAgain n (changed_table made_longer) (changed_table []) → ⊥
never_fewer n again = let e : 1 ≤ 0 = steps_stay n (changed_table made_longer) (changed_table []) again in absurd (omega (arith, e))

-- one try that stopped after its first call
pub once_again : IsTriedAgain 1 (changed_table []) (changed_table made_longer)
once_again =
    let t = changed_table made_longer in
    let front : (front : List Step) × (rest : List Step) × (closing (changed_table []) ≡ front ++ rest) × (t.pages.journal ≡ noted_steps (changed_table []).pages.journal front) =
    (made_longer, mark_of t ∷ later_of t, refl, refl) in (
      t,
      record { tree = refl; contents = refl; steady = refl; steps = front; tries = tried_again (changed_table []) t refl front },
      refl,
    )
