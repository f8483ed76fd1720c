-- How often a disk has failed when its file was closed.
use Rattle.std.proofs.Common.{◌≡◌, ◌∙◌, ⊎_elim, ℕ, ◌+◌, ◌<◌, ◌≤◌, Bool, true, false, List, Option, Some, IfSome, Result, Ok, Err, OnOk, refl, sym, ap, subst, arith}
use Rattle.std.proofs.lemmas.Bool.Decides.{nat_tests}
use Rattle.rec_types.specs.Table.{counted, greatest_count}
use Rattle.page_store.specs.Calls.{counted_times}
use Rattle.page_store.specs.Guards.{Guard, Unguarded, Unsealed, Sealed, Stopped, SealsGuard}
use Rattle.page_store.specs.StoreFaults.{is_failed}
use Rattle.page_store.specs.WriteFaults.{write_by_device}
use Rattle.page_store.specs.declared.page_edit.WriteFault.{WriteFault}
use Rattle.page_store.specs.declared.page_edit.WriteFault.TheVariants as closing
use Rattle.page_store.specs.declared.store_fault.StoreFault.{StoreFault}
use Rattle.page_store.specs.declared.store_fault.StoreFault.TheVariants as storing
use Rattle.page_journal.specs.KeptStores.{failures_with, guard_of}
use Rattle.page_journal.specs.declared.seal_state.SealState.{SealState}
use Rattle.page_journal.specs.declared.seal_state.SealState.TheVariants as states
use Rattle.btree_delete.specs.CleanFile.{is_close_device_fault, is_open_device_fault}
use Rattle.btree_delete.specs.declared.opening.open_fault.OpenFault.{OpenFault}
use Rattle.btree_delete.specs.declared.opening.open_fault.OpenFault.TheVariants as opening
use Rattle.page_journal.specs.Recovery.{is_device_fault as is_recovery_device}
use Rattle.page_journal.specs.declared.recovery_fault.RecoveryFault.{RecoveryFault}
use Rattle.page_journal.specs.declared.recovery_fault.RecoveryFault.TheVariants as recovering
use Rattle.file_session.specs.FileFaults.{answer_of_store, fault_of_closing, fault_of_opening, fault_of_recovery, is_file_device, is_device_answer}
use Rattle.file_session.specs.Closing.{is_sealed, refused_calls}
use Rattle.file_session.specs.declared.file_fault.FileFault.{FileFault}

refusals_in : (state : SealState) (kept : List Bool) (refusals : ℕ) → refused_calls (guard_of state kept refusals) ≡ refusals
refusals_in states.Unsealed kept refusals = refl
refusals_in states.Sealed kept refusals = refl
refusals_in states.Stopped kept refusals = refl

-- where no call was refused, the failures of a store are those of its disk
pub unrefused : (state : SealState) (kept : List Bool) (failed refusals failures : ℕ) (guard : Guard) → guard_of state kept refusals ≡ guard → refused_calls guard ≡ 0 → failures_with failed refusals ≡ failures → failed ≡ failures
unrefused state kept failed refusals failures guard is none all =
    let zero_is : refusals ≡ 0 = sym (refusals_in state kept refusals) ∙ ap refused_calls is ∙ none in
    ap (failures_with failed) (sym zero_is) ∙ all

-- a store in which nothing is kept aside and no call was refused
pub unused_guard : (state : SealState) (kept : List Bool) (refusals : ℕ) → state ≡ states.Unsealed → refusals ≡ 0 → guard_of state kept refusals ≡ Unsealed 0
unused_guard state kept refusals state_is none = λ i. guard_of (state_is i) kept (none i)

-- a call of it that refuses none is counted by its disk
pub disk_counts : (state later : SealState) (kept marks : List Bool) (failed refusals now more : ℕ) (device : Bool) → guard_of state kept refusals ≡ Unsealed 0 → guard_of later marks more ≡ guard_of state kept refusals → failures_with now more ≡ counted (failures_with failed refusals) device → now ≡ counted failed device
disk_counts state later kept marks failed refusals now more device unused same counts =
    unrefused later marks now more (counted (failures_with failed refusals) device) (Unsealed 0) (same ∙ unused) refl counts
    ∙ ap (λ n. counted n device) (sym (unrefused state kept failed refusals (failures_with failed refusals) (Unsealed 0) unused refl refl))

-- where nothing is kept aside, the state says so
pub unsealed : (state : SealState) (kept : List Bool) (refusals : ℕ) (guard : Guard) → guard_of state kept refusals ≡ guard → is_sealed guard ≡ false → state ≡ states.Sealed → ⊥
unsealed state kept refusals guard is not_sealed same = absurd (cc (sym not_sealed ∙ ap is_sealed (sym is) ∙ ap (λ (s : SealState). is_sealed (guard_of s kept refusals)) same))

-- sealing leaves no refusal, whatever it answers
pub seal_refuses : (F : Type 0) (test : ℕ → Bool) (long : ℕ) (old : Guard) (answer : Result (Unit {0}) F) (new : Guard) → old ≡ Unsealed 0 → SealsGuard test long old answer new → refused_calls new ≡ 0
seal_refuses F test long old answer new is seals = at answer (subst (λ (k : Guard). SealsGuard {F = F} test long k answer new) is seals)
  where
    at : (answer : Result (Unit {0}) F) → SealsGuard test long (Unsealed 0) answer new → refused_calls new ≡ 0
    at (Ok done) keeps = ap refused_calls keeps.sealed
    at (Err fault) left = ⊎_elim (λ (same : new ≡ Unsealed 0). ap refused_calls same) (λ (stopped : new ≡ Stopped 0). ap refused_calls stopped) left

abbrev pub is_stopped : Guard → Bool
is_stopped Unguarded = false
is_stopped (Unsealed refusals) = false
is_stopped (Sealed kept refusals) = false
is_stopped (Stopped refusals) = true

pub seal_goes_on : (F : Type 0) (test : ℕ → Bool) (long : ℕ) (old new : Guard) → old ≡ Unsealed 0 → SealsGuard {F = F} test long old (Ok tt) new → is_stopped new ≡ false
seal_goes_on F test long old new is seals =
    let keeps = subst (λ (k : Guard). SealsGuard {F = F} test long k (Ok tt) new) is seals in
    ap is_stopped keeps.sealed

pub not_stopped : (state : SealState) (kept : List Bool) (refusals : ℕ) (guard : Guard) → guard_of state kept refusals ≡ guard → is_stopped guard ≡ false → state ≡ states.Stopped → ⊥
not_stopped state kept refusals guard is going same = absurd (cc (sym going ∙ ap is_stopped (sym is) ∙ ap (λ (s : SealState). is_stopped (guard_of s kept refusals)) same))

-- where old pages are kept aside, the state says so
pub seal_seals : (F : Type 0) (test : ℕ → Bool) (long : ℕ) (old new : Guard) → old ≡ Unsealed 0 → SealsGuard {F = F} test long old (Ok tt) new → is_sealed new ≡ true
seal_seals F test long old new is seals =
    let keeps = subst (λ (k : Guard). SealsGuard {F = F} test long k (Ok tt) new) is seals in
    ap is_sealed keeps.sealed

pub sealed_state : (state : SealState) (kept : List Bool) (refusals : ℕ) (guard : Guard) → guard_of state kept refusals ≡ guard → is_sealed guard ≡ true → state ≡ states.Sealed
sealed_state states.Unsealed kept refusals guard is sealed = absurd (cc (sym sealed ∙ ap is_sealed (sym is)))
sealed_state states.Sealed kept refusals guard is sealed = refl
sealed_state states.Stopped kept refusals guard is sealed = absurd (cc (sym sealed ∙ ap is_sealed (sym is)))

-- calls that have their moments
one_moment : (n k : ℕ) → k < greatest_count → k ≤ n → k + 1 ≤ counted n true
one_moment n k low le = grind (arith, nat_tests)

three_moments : (n later : ℕ) → counted_times n 3 ≤ later → 3 ≤ later
three_moments n later counts =
    let one = one_moment n 0 (omega arith) (omega arith) in
    let two = one_moment (counted n true) 1 (omega arith) one in
    let three = one_moment (counted (counted n true) true) 2 (omega arith) two in
    omega (arith, three, counts)

pub moments_told : (answer : Result (Unit {0}) StoreFault) (n later : ℕ) → OnOk answer (counted_times n 3 ≤ later) → OnOk answer (3 ≤ later)
moments_told (Ok done) n later counts = three_moments n later counts
moments_told (Err fault) n later counts = tt

-- a table that was changed or not
pub by_change : {P : Type 0} (b : Bool) → (b ≡ true → P) → (b ≡ false → P) → P
by_change true changed idle = changed refl
by_change false changed idle = idle refl

-- the names of the faults
pub device_of_closing : (fault : WriteFault) → is_close_device_fault fault ≡ is_file_device (fault_of_closing fault)
device_of_closing closing.Device = refl
device_of_closing closing.Memory = refl

pub device_of_sealing : (fault : WriteFault) → write_by_device {X = Unit {0}} (Err fault) ≡ is_file_device (fault_of_closing fault)
device_of_sealing closing.Device = refl
device_of_sealing closing.Memory = refl

pub device_of_store : (answer : Result (Unit {0}) StoreFault) → is_failed answer ≡ is_device_answer (answer_of_store answer)
device_of_store (Ok done) = refl
device_of_store (Err storing.Failed) = refl
device_of_store (Err storing.Memory) = refl

pub device_of_opening : (fault : OpenFault) → is_open_device_fault fault ≡ is_file_device (fault_of_opening fault)
device_of_opening opening.Device = refl
device_of_opening opening.BadLength = refl
device_of_opening opening.BadMagic = refl
device_of_opening (opening.BadVersion version) = refl
device_of_opening opening.BadOrder = refl
device_of_opening opening.NotClean = refl
device_of_opening opening.BadHeader = refl
device_of_opening (opening.Damaged page) = refl
device_of_opening opening.WrongCount = refl
device_of_opening opening.TooManyRecords = refl
device_of_opening opening.Memory = refl

pub ok_told : (answer : Result (Unit {0}) StoreFault) (P : Type 0) → OnOk answer P → OnOk (answer_of_store answer) P
ok_told (Ok done) P known = known
ok_told (Err fault) P known = tt

pub device_of_recovery : (fault : RecoveryFault) → is_recovery_device fault ≡ is_file_device (fault_of_recovery fault)
device_of_recovery recovering.Device = refl
device_of_recovery recovering.BadJournal = refl

-- what is told of a fault that is there
pub some_told : (o : Option FileFault) (fault : FileFault) (Q : FileFault → Type 0) → o ≡ Some fault → Q fault → IfSome o Q
some_told o fault Q is known = subst (λ (p : Option FileFault). IfSome p Q) (sym is) known

-- one failure more, or none
pub one_more : (n : ℕ) → n < greatest_count → counted n true ≡ n + 1
one_more n less = grind (arith, nat_tests)

pub no_less : (n : ℕ) (b : Bool) → n < counted n b + 1
no_less n true = grind (arith, nat_tests)
no_less n false = omega arith
