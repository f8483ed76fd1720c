-- What a table's fault means to a call.
use Rattle.std.proofs.Common.{◌≡◌, ℕ, ◌+◌, ◌<◌, Bool, true, false, cond, nat_lt, List, Option, Some, None, Err, refl, arith, inl, inr}
use Rattle.std.proofs.lemmas.Bool.Decides.{nat_tests}
use Rattle.rec_types.specs.Table.{is_device, counted, greatest_count, Damages}
use Rattle.record_file.specs.Outside.{cause_of, TellsDamage}
use Rattle.rec_types.specs.declared.table.TableFault.{TableFault}
use Rattle.rec_types.specs.declared.table.TableFault.TheVariants as table_faults
use Rattle.tx_log.specs.declared.phase.UndoStep.{UndoStep}
use Rattle.record_file.specs.declared.fault.Cause.TheVariants as causes
use Rattle.record_file.specs.declared.refusal.Refusal.{Refusal}
use Rattle.record_file.specs.declared.refusal.Refusal.TheVariants.{Failed}
use Rattle.record_file.specs.Steps.{rose, RefusedFor}

-- an option that can't be something is nothing
pub none_by : {A : Type 0} (o : Option A) → ((x : A) → o ≡ Some x → ⊥) → o ≡ None
none_by None none = refl
none_by (Some x) none = absurd (none x refl)

-- a number that stays didn't rise, and one that was counted did
pub rose_same : (a b : ℕ) → b ≡ a → rose a b ≡ false
rose_same a b is = grind (arith, nat_tests)

-- a count that was counted up rose
pub rose_counted : (a b : ℕ) → a < greatest_count → b ≡ counted a true → rose a b ≡ true
rose_counted a b lt is = at (nat_lt a greatest_count) refl is
  where
    at : (t : Bool) → nat_lt a greatest_count ≡ t → b ≡ cond t (a + 1) a → rose a b ≡ true
    at true below is = grind (arith, nat_tests)
    at false above is = absurd (grind (arith, nat_tests))

-- a call that its table refused
pub refused_by_table : (first : Option Refusal) (barred : Bool) (a b : ℕ) (fault : TableFault) → first ≡ None → barred ≡ false → a < greatest_count → b ≡ counted a (is_device {A = Option (List ℕ)} (Err fault)) → (fault ≡ table_faults.NoRoom → ⊥) → ((page : ℕ) → fault ≡ table_faults.Damaged page → ⊥) → RefusedFor first barred (rose a b) (Failed (cause_of fault))
refused_by_table first barred a b table_faults.Device none free lt counts room damaged = (none, rose_counted a b lt counts)
refused_by_table first barred a b (table_faults.Damaged page) none free lt counts room damaged = absurd (damaged page refl)
refused_by_table first barred a b table_faults.NoRoom none free lt counts room damaged = absurd (room refl)
refused_by_table first barred a b table_faults.Memory none free lt counts room damaged = (none, rose_same a b counts, free)

-- a stop that its table neither wanted room for nor named a page in tells of no damaged page
pub untold : (fault : TableFault) → (fault ≡ table_faults.NoRoom → ⊥) → ((page : ℕ) → fault ≡ table_faults.Damaged page → ⊥) → (page : ℕ) → Some (cause_of fault) ≡ Some (causes.Damaged page) → ⊥
untold table_faults.Device room damaged page is = cc
untold (table_faults.Damaged named) room damaged page is = absurd (damaged named refl)
untold table_faults.NoRoom room damaged page is = absurd (room refl)
untold table_faults.Memory room damaged page is = cc

-- the step of one answer
pub step_is : (a b : UndoStep) → Some a ≡ Some b → a ≡ b
step_is a b is = cc

-- an answer without a cause tells of no damaged page
pub tells_no_damage : (old new : Damages) → TellsDamage old None new → new ≡ old
tells_no_damage old new (inl is) = is
tells_no_damage old new (inr told) = told.1
