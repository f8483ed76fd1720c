-- What calls one after another ask of the table.
use Rattle.std.proofs.Common.{◌≡◌, ℕ, ◌<◌, false, nat_lt, Option, None, Result, Ok, Err, inl, refl, sym, ap, subst, ◌∙◌, arith}
use Rattle.std.proofs.lemmas.Bool.Decides.{nat_tests}
use Rattle.rec_types.specs.Table.{counted, Damages, greatest_count}
use Rattle.rec_types.specs.declared.transaction.TxId.{TxId}
use Rattle.record_file.specs.declared.fault.Cause.{Cause}
use Rattle.record_file.specs.declared.fault.AbortFault.{AbortFault}
use Rattle.record_file.specs.declared.fault.AbortFault.TheVariants as abort_faults
use Rattle.record_file.specs.declared.fault.ResumeFault.{ResumeFault}
use Rattle.record_file.specs.declared.fault.ResumeFault.TheVariants as resume_faults
use Rattle.record_file.specs.Outside.{by_device, by_memory, TellsDamage}
use Rattle.record_file.specs.Refusals.{abort_refusal, resume_refusal, cause_by}
use Rattle.record_file.specs.Runs.{Seen}
use Rattle.record_file.specs.Steps.{rose, EndsBy}
use Rattle.record_file.proofs.AskedLemmas.{undo_nothing, undo_then}
use Rattle.record_file.proofs.FaultLemmas.{tells_no_damage}
use Rattle.record_file.proofs.LogGrowthLemmas.{tells_none, tells_on}
use Rattle.recfile.specs.Ending.{EndingAsks, resumed, aborted, end_cause}

-- nothing was asked
pub asks_nothing : (s : Seen) → EndingAsks s None s
asks_nothing s = record {
  failures = refl;
  refusals = refl;
  damages = inl refl;
  sound = refl;
  told = tells_none s.sound s.records s.records s.log s.log refl refl;
  opening = λ _. refl;
  caused = λ sound few fewer. (same s.failures, same s.refusals);
  asked = undo_nothing s;
}
  where
    same : (n : ℕ) → nat_lt n n ≡ false
    same n = grind (arith, nat_tests)

-- one call after calls that were not stopped
pub asks_on : (old mid new : Seen) (cause : Option Cause) → EndingAsks old None mid → EndingAsks mid cause new → EndingAsks old cause new
asks_on old mid new cause first later = record {
  failures = later.failures ∙ ap (λ n. counted n (by_device cause)) first.failures;
  refusals = later.refusals ∙ ap (λ n. counted n (by_memory cause)) first.refusals;
  damages = subst (λ (d : Damages). TellsDamage d cause new.damages) (tells_no_damage old.damages mid.damages first.damages) later.damages;
  sound = later.sound ∙ first.sound;
  told = tells_on old.sound mid.sound old.records mid.records new.records old.log mid.log new.log first.sound first.told later.told;
  opening = λ sound. later.opening (first.sound ∙ sound) ∙ first.opening sound;
  caused = λ sound few fewer.
      subst (λ (n : ℕ). EndsBy (rose n new.failures) (rose old.refusals new.refusals) cause) first.failures
      (subst (λ (n : ℕ). EndsBy (rose mid.failures new.failures) (rose n new.refusals) cause) first.refusals
      (later.caused (first.sound ∙ sound) (subst (λ (n : ℕ). n < greatest_count) (sym first.failures) few) (subst (λ (n : ℕ). n < greatest_count) (sym first.refusals) fewer)));
  asked = undo_then old mid new cause first.asked later.asked;
}

-- the cause of a resumed rollback's stop is the one that ending the transaction tells
pub resumed_cause : (tx : TxId) (answer : Result ℕ ResumeFault) → cause_by resume_refusal answer ≡ end_cause (resumed tx answer)
resumed_cause tx (Ok undone) = refl
resumed_cause tx (Err resume_faults.NoSuchTx) = refl
resumed_cause tx (Err resume_faults.NotRolling) = refl
resumed_cause tx (Err (resume_faults.Stopped undone left cause)) = refl

-- the cause of an abort's stop is the one that ending the transaction tells
pub aborted_cause : (tx : TxId) (answer : Result ℕ AbortFault) → cause_by abort_refusal answer ≡ end_cause (aborted tx answer)
aborted_cause tx (Ok undone) = refl
aborted_cause tx (Err abort_faults.NoSuchTx) = refl
aborted_cause tx (Err abort_faults.Rolling) = refl
aborted_cause tx (Err (abort_faults.Stopped undone left cause)) = refl
