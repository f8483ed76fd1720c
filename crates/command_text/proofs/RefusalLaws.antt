-- The text of a refusal begins as `no`, `bad` or `stopped` does, and no other.
use Rattle.std.proofs.Common.{◌≡◌, ℕ, true, false, [], ◌∷◌, List, Option, Some, None, Ok, Err, Result, refl}
use Rattle.std.specs.Result.{is_err}
use Rattle.rec_types.specs.declared.transaction.Entry.{Entry}
use Rattle.command_text.specs.Refusals.{is_refusal, begins_refused}
use Rattle.command_text.specs.Texts.{line, answer_text, refusal_text, fault_text, unkept_text, old_text, entries_text, keys_text, text_of}
use Rattle.command_text.specs.declared.command.LineFault.{LineFault}
use Rattle.command_text.specs.declared.command.LineFault.TheVariants as line_faults
use Rattle.record_file.specs.declared.refusal.Refusal.{Refusal}
use Rattle.record_file.specs.declared.refusal.Refusal.TheVariants as refusals
use Rattle.command_text.specs.declared.reply.Reply.{Reply}
use Rattle.command_text.specs.declared.reply.Unkept.{Unkept}
use Rattle.command_text.specs.declared.reply.Unkept.TheVariants as unkepts
use Rattle.command_text.specs.declared.reply.Reply.TheVariants as reply

refused : (r : Refusal) → begins_refused (line (refusal_text r)) ≡ true
refused refusals.BeginsSpent = refl
refused refusals.NoSuchTx = refl
refused refusals.Rolling = refl
refused refusals.NotRolling = refl
refused (refusals.Held owner) = refl
refused refusals.LogFull = refl
refused refusals.Full = refl
refused refusals.Absent = refl
refused refusals.TooDeep = refl
refused refusals.NoSuchSave = refl
refused (refusals.Failed cause) = refl
refused (refusals.Stopped undone left cause) = refl

bad : (fault : LineFault) → begins_refused (line (fault_text fault)) ≡ true
bad line_faults.UnknownCommand = refl
bad line_faults.WordCount = refl
bad line_faults.BadNumber = refl
bad line_faults.KeyTooLong = refl
bad line_faults.NoRecordMark = refl
bad line_faults.RecordTooLong = refl
bad line_faults.LineTooLong = refl

unkept : (fault : Unkept) → begins_refused (line (unkept_text fault)) ≡ true
unkept unkepts.Memory = refl
unkept unkepts.Device = refl
unkept unkepts.Doubt = refl

old : (before : Option (List ℕ)) → begins_refused (line (old_text before)) ≡ false
old None = refl
old (Some r) = refl

listed : (entries : List Entry) → begins_refused (line (entries_text entries)) ≡ false
listed [] = refl
listed (e ∷ es) = refl

keyed : (keys : List (List ℕ)) → begins_refused (line (keys_text keys)) ≡ false
keyed [] = refl
keyed (k ∷ ks) = refl

-- an answer that begins as it should
told : {A F : Type 0} (ok_text : A → List ℕ) (refusal_of : F → Refusal) → ((x : A) → begins_refused (line (ok_text x)) ≡ false) → (answer : Result A F) → begins_refused (line (answer_text ok_text refusal_of answer)) ≡ is_err answer
told ok_text refusal_of accepted (Ok x) = accepted x
told ok_text refusal_of accepted (Err fault) = refused (refusal_of fault)

pub begins : (r : Reply) → begins_refused (text_of r) ≡ is_refusal r
begins (reply.Begin answer) = told _ _ (λ x. refl) answer
begins (reply.Put answer) = told _ _ old answer
begins (reply.Claim answer) = told _ _ old answer
begins (reply.Del answer) = told _ _ (λ x. refl) answer
begins (reply.Get answer) = told _ _ old answer
begins (reply.Save answer) = told _ _ (λ x. refl) answer
begins (reply.Release answer) = told _ _ (λ x. refl) answer
begins (reply.Back answer) = told _ _ (λ x. refl) answer
begins (reply.Resume answer) = told _ _ (λ x. refl) answer
begins (reply.Abort answer) = told _ _ (λ x. refl) answer
begins (reply.Commit answer) = told _ _ (λ x. refl) answer
begins (reply.List answer) = told _ _ listed answer
begins (reply.Committed answer) = told _ _ old answer
begins (reply.Keys answer) = told _ _ keyed answer
begins (reply.Log len used) = refl
begins (reply.Unkept fault) = unkept fault
begins (reply.Bad fault) = bad fault
