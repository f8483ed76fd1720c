-- Failures of a disk, and calls that were refused.
use Rattle.std.proofs.Common.{◌≡◌, ◌⊎◌, ⊎_elim, inl, inr, ℕ, ◌+◌, ◌<◌, ◌≤◌, Bool, true, false, List, zero, suc, refl, sym, ap, ◌∙◌, arith}
use Rattle.std.proofs.lemmas.Bool.{cases_lt}
use Rattle.std.proofs.lemmas.Bool.Decides.{nat_tests}
use Rattle.rec_types.specs.Table.{counted, greatest_count}
use Rattle.page_store.specs.Guards.{may_grow, may_write}
use Rattle.page_store.proofs.CallCountLemmas.{counted_once}
use Rattle.page_journal.specs.KeptStores.{failures_with, guard_of, may_write_in}
use Rattle.page_journal.specs.declared.seal_state.SealState.{SealState}
use Rattle.page_journal.specs.declared.seal_state.SealState.TheVariants.{Unsealed, Sealed, Stopped}

-- a call of the disk that failed, or didn't
pub passed : (failed refusals : ℕ) (b : Bool) → failures_with (counted failed b) refusals ≡ counted (failures_with failed refusals) b
passed failed refusals false = refl
passed failed zero true = refl
passed failed (suc refusals) true = ap (λ n. counted n true) (passed failed refusals true)

below : (n : ℕ) → n < greatest_count → counted n true ≡ n + 1
below n less = grind (arith, nat_tests)

full : (n : ℕ) → greatest_count ≤ n → counted n true ≡ n
full n most = grind (arith, nat_tests)

-- so many counts lead at least so far
far : (failed refusals : ℕ) → (refusals ≤ failures_with failed refusals) ⊎ (greatest_count ≤ failures_with failed refusals)
far failed zero = inl (omega arith)
far failed (suc refusals) = ⊎_elim
    (λ (less : failures_with failed refusals < greatest_count). ⊎_elim (λ (some : refusals ≤ failures_with failed refusals). inl (let one = below (failures_with failed refusals) less in omega (arith, one, some)))
    (λ (most : greatest_count ≤ failures_with failed refusals). absurd (omega (arith, less, most))) (far failed refusals))
    (λ (most : greatest_count ≤ failures_with failed refusals). inr (let one = full (failures_with failed refusals) most in omega (arith, one, most)))
    (cases_lt (failures_with failed refusals) greatest_count)

-- a call that was refused
pub refused : (failed refusals : ℕ) → failures_with failed (counted refusals true) ≡ counted (failures_with failed refusals) true
refused failed refusals = ⊎_elim
    (λ (less : refusals < greatest_count). ap (failures_with failed) (below refusals less) ∙ sym (counted_once failed refusals))
    (λ (most : greatest_count ≤ refusals). ap (failures_with failed) (full refusals most) ∙ sym (full (failures_with failed refusals) (⊎_elim (λ (some : refusals ≤ failures_with failed refusals). omega (arith, some, most)) (λ (all : greatest_count ≤ failures_with failed refusals). all) (far failed refusals))))
    (cases_lt refusals greatest_count)

-- what may be written over by the guard is what may be by the state
pub may_by_guard : (state : SealState) (kept : List Bool) (refusals n : ℕ) → may_write (guard_of state kept refusals) n ≡ may_write_in state kept n
may_by_guard Unsealed kept refusals n = refl
may_by_guard Sealed kept refusals n = refl
may_by_guard Stopped kept refusals n = refl

-- they are counted from what there was
pub passed_on : (old new refusals failed before : ℕ) (b : Bool) → new ≡ counted old b → old ≡ failed → refusals ≡ before → failures_with new refusals ≡ counted (failures_with failed before) b
passed_on old new refusals failed before b more was same =
    (λ i. failures_with (more i) (same i)) ∙ passed old before b ∙ ap (λ n. counted (failures_with n before) b) was

pub refused_on : (disk refusals more failed before : ℕ) → more ≡ counted refusals true → disk ≡ failed → refusals ≡ before → failures_with disk more ≡ counted (failures_with failed before) true
refused_on disk refusals more failed before is was same =
    (λ i. failures_with (was i) (is i)) ∙ refused failed refusals ∙ ap (λ n. counted (failures_with failed n) true) same

-- what isn't sealed can't be made longer
pub grows_sealed : (state : SealState) (kept : List Bool) (refusals : ℕ) → may_grow (guard_of state kept refusals) ≡ true → state ≡ Sealed
grows_sealed Unsealed kept refusals grows = absurd (cc)
grows_sealed Sealed kept refusals grows = refl
grows_sealed Stopped kept refusals grows = absurd (cc)
