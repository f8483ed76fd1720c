-- How keys, records and replies are written.
use Rattle.std.specs.Prelude.{ℕ, Bool, ◌&&◌, ◌||◌, ◌==◌, nat_le, if◌then◌else◌, List, [], ◌∷◌, ◌++◌, length, Option, Some, None, Result, Ok, Err, codes}
use Rattle.std.specs.List.{flat_map}
use Rattle.std.specs.Fmt.{decimal}
use Rattle.percent_encoding.specs.Percent.{percent_encode_byte}
use Rattle.rec_types.specs.declared.transaction.TxId.{TxId}
use Rattle.rec_types.specs.declared.transaction.Entry.{Entry}
use Rattle.record_file.specs.declared.fault.Cause.{Cause}
use Rattle.record_file.specs.declared.fault.Cause.TheVariants as causes
use Rattle.command_text.specs.declared.command.LineFault.{LineFault}
use Rattle.command_text.specs.declared.command.LineFault.TheVariants as line_faults
use Rattle.record_file.specs.declared.refusal.Refusal.{Refusal}
use Rattle.record_file.specs.declared.refusal.Refusal.TheVariants as refusals
use Rattle.command_text.specs.declared.reply.Reply.{Reply}
use Rattle.command_text.specs.declared.reply.Unkept.{Unkept}
use Rattle.command_text.specs.declared.reply.Unkept.TheVariants as unkept
use Rattle.command_text.specs.declared.reply.Reply.TheVariants as reply
use Rattle.record_file.specs.Refusals.{begin_refusal, put_refusal, claim_refusal, remove_refusal, get_refusal, savepoint_refusal, release_refusal, rollback_refusal, abort_refusal, resume_refusal, commit_refusal, committed_refusal, entries_refusal, keys_of_refusal}

-- the bytes 0 to 32, `%`, and those from 127 on are written as `%` and two upper case hexadecimal digits
abbrev pub is_escaped : ℕ → Bool
is_escaped b = nat_le b 32 || b == 37 || nat_le 127 b

-- a byte that stands for itself, between spaces
abbrev pub is_plain : ℕ → Bool
is_plain b = nat_le 33 b && nat_le b 126

abbrev pub escaped_byte : ℕ → List ℕ
escaped_byte b = if is_escaped b then percent_encode_byte b else b ∷ []

unfoldable pub escaped : List ℕ → List ℕ
escaped bytes = flat_map escaped_byte bytes

-- a line and its end
abbrev pub line : List ℕ → List ℕ
line text = text ++ 10 ∷ []

abbrev pub cause_text : Cause → List ℕ
cause_text causes.Device = codes "Device"
cause_text (causes.Damaged page) = codes "Damaged " ++ decimal page
cause_text causes.Memory = codes "Memory"

-- a refusal by its name, a stop by what it took back, what it left, and its cause
abbrev pub refusal_text : Refusal → List ℕ
refusal_text refusals.BeginsSpent = codes "no BeginsSpent"
refusal_text refusals.NoSuchTx = codes "no NoSuchTx"
refusal_text refusals.Rolling = codes "no Rolling"
refusal_text refusals.NotRolling = codes "no NotRolling"
refusal_text (refusals.Held owner) = codes "no Held " ++ decimal owner.0
refusal_text refusals.LogFull = codes "no LogFull"
refusal_text refusals.Full = codes "no Full"
refusal_text refusals.Absent = codes "no Absent"
refusal_text refusals.TooDeep = codes "no TooDeep"
refusal_text refusals.NoSuchSave = codes "no NoSuchSave"
refusal_text (refusals.Failed cause) = codes "no " ++ cause_text cause
refusal_text (refusals.Stopped undone left cause) =
    codes "stopped " ++ decimal undone ++ codes " " ++ decimal left ++ codes " " ++ cause_text cause

abbrev pub fault_text : LineFault → List ℕ
fault_text line_faults.LineTooLong = codes "bad LineTooLong"
fault_text line_faults.UnknownCommand = codes "bad UnknownCommand"
fault_text line_faults.WordCount = codes "bad WordCount"
fault_text line_faults.BadNumber = codes "bad BadNumber"
fault_text line_faults.KeyTooLong = codes "bad KeyTooLong"
fault_text line_faults.NoRecordMark = codes "bad NoRecordMark"
fault_text line_faults.RecordTooLong = codes "bad RecordTooLong"

-- what an accepted call answers: nothing, a number, a record, or one that may not have been there
abbrev pub done_text : Unit {0} → List ℕ
done_text done = codes "ok"

abbrev pub number_text : ℕ → List ℕ
number_text n = codes "ok " ++ decimal n

abbrev pub record_text : List ℕ → List ℕ
record_text r = codes "ok =" ++ escaped r

abbrev pub old_text : Option (List ℕ) → List ℕ
old_text None = codes "ok none"
old_text (Some r) = record_text r

abbrev pub owner_text : Option TxId → List ℕ
owner_text None = []
owner_text (Some t) = codes " @" ++ decimal t.0

-- a record, and the owner of its key where it has one
abbrev pub entry_line : Entry → List ℕ
entry_line e =
    line (codes "- " ++ escaped e.key ++ codes " =" ++ escaped e.value ++ owner_text e.owner)

abbrev pub key_line : List ℕ → List ℕ
key_line k = line (codes "- " ++ escaped k)

-- a line for each, and then how many there are
abbrev pub entries_text : List Entry → List ℕ
entries_text entries = flat_map entry_line entries ++ number_text (length entries)

abbrev pub keys_text : List (List ℕ) → List ℕ
keys_text keys = flat_map key_line keys ++ number_text (length keys)

abbrev pub unkept_text : Unkept → List ℕ
unkept_text unkept.Memory = codes "no Memory"
unkept_text unkept.Device = codes "no Device"
unkept_text unkept.Doubt = codes "no Doubt"

-- what a call answers, or its refusal
abbrev pub answer_text : {A F : Type 0} → (A → List ℕ) → (F → Refusal) → Result A F → List ℕ
answer_text ok_text refusal_of (Ok answer) = ok_text answer
answer_text ok_text refusal_of (Err fault) = refusal_text (refusal_of fault)

-- a reply without the end of its last line
abbrev pub reply_text : Reply → List ℕ
reply_text (reply.Begin answer) = answer_text (λ t. number_text t.0) begin_refusal answer
reply_text (reply.Put answer) = answer_text old_text put_refusal answer
reply_text (reply.Claim answer) = answer_text old_text claim_refusal answer
reply_text (reply.Del answer) = answer_text record_text remove_refusal answer
reply_text (reply.Get answer) = answer_text old_text get_refusal answer
reply_text (reply.Save answer) = answer_text number_text savepoint_refusal answer
reply_text (reply.Release answer) = answer_text done_text release_refusal answer
reply_text (reply.Back answer) = answer_text number_text rollback_refusal answer
reply_text (reply.Resume answer) = answer_text number_text resume_refusal answer
reply_text (reply.Abort answer) = answer_text number_text abort_refusal answer
reply_text (reply.Commit answer) = answer_text done_text commit_refusal answer
reply_text (reply.List answer) = answer_text entries_text entries_refusal answer
reply_text (reply.Committed answer) = answer_text old_text committed_refusal answer
reply_text (reply.Keys answer) = answer_text keys_text keys_of_refusal answer
reply_text (reply.Log len used) = number_text len ++ codes " " ++ decimal used
reply_text (reply.Unkept fault) = unkept_text fault
reply_text (reply.Bad fault) = fault_text fault

-- the text of a reply: each of its lines has its end
abbrev pub text_of : Reply → List ℕ
text_of answer = line (reply_text answer)

-- the text of a run: its replies, one after another
abbrev pub texts_of : List Reply → List ℕ
texts_of replies = flat_map text_of replies
