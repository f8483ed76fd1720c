-- The run of a dump over a new file with room for its records.
use Rattle.std.proofs.Common.{◌≡◌, ℕ, suc, ◌+◌, ◌*◌, ◌≤◌, ◌<◌, Bool, true, false, cond, ◌&&◌, ◌==◌, nat_lt, if◌then◌else◌, List, [], ◌∷◌, ◌++◌, map, filter, length, Option, Some, None, option_map, Result, Ok, Err, IsTrue, refl, sym, ap, subst, ◌∙◌, arith}
use Rattle.std.proofs.lemmas.Bool.Decides.{nat_tests}
use Rattle.std.specs.List.{All}
use Rattle.std.specs.FinMap as maps
use Rattle.std.specs.FinMap.{get, insert, len, len-empty}
use Rattle.std.specs.Cmp.Lexicographic.{slice_cmp}
use Rattle.std.specs.Ordering.{nat_cmp}
use Rattle.std.proofs.lemmas.List.{length-append}
use Rattle.std.proofs.lemmas.List.Elements.{All-nil, All-cons, All-head, All-tail}
use Rattle.rec_types.specs.Contents.{Contents, same_key}
use Rattle.rec_types.specs.History.{Change, is_taken, is_pending, replay}
use Rattle.rec_types.specs.Kept.{Kept, change_of, history_of}
use Rattle.rec_types.specs.LimitBounds.{Bounds}
use Rattle.rec_types.specs.Table.{counted, greatest_count}
use Rattle.rec_types.specs.declared.transaction.TxId.{TxId}
use Rattle.tx_log.specs.Owners.{charged, holder_of, other_than, owner_of}
use Rattle.tx_log.specs.Transactions.{Transactions, Tx, fresh, is_open}
use Rattle.tx_log.specs.LogState.{phase_of}
use Rattle.tx_log.specs.declared.phase.BeginFault.{BeginFault}
use Rattle.tx_log.specs.declared.phase.BeginFault.TheVariants as begin_faults
use Rattle.tx_log.specs.declared.phase.Phase.TheVariants.{Active}
use Rattle.record_file.specs.Abstract.{File, held_by, is_full, new_file, phase_at, use_of, with_change}
use Rattle.record_file.specs.Runs.{Answers, Begin, Called, Commit, Put, Seen, undoubted}
use Rattle.record_file.specs.Steps.{active_refusal, held_refusal, key_refusal}
use Rattle.record_file.specs.Refusals.{commit_refusal}
use Rattle.record_file.specs.declared.refusal.Refusal.TheVariants as refusals
use Rattle.record_file.specs.declared.fault.CommitFault.{CommitFault}
use Rattle.record_file.specs.declared.fault.PutFault.{PutFault}
use Rattle.record_file.specs.declared.fault.PutFault.TheVariants as put_faults
use Rattle.record_file.proofs.FileLemmas.{change, charged_put, history-push, replay-push}
use Rattle.record_file.proofs.FullnessLemmas.{below_not_full}
use Rattle.record_file.proofs.OpenTxLemmas.{get-inserted_tx}
use Rattle.command_text.specs.declared.command.Command.{Command}
use Rattle.command_text.specs.declared.command.Command.TheVariants as command
use Rattle.command_text.specs.declared.reply.Reply.{Reply}
use Rattle.command_text.specs.declared.reply.Reply.TheVariants as reply
use Rattle.command_text.specs.Dump.{CanBePut, dump_commands, dump_text, put_of}
use Rattle.command_text.specs.Examples.{tx}
use Rattle.command_text.specs.Grammar.{Read}
use Rattle.command_text.specs.Refusals.{is_refusal}
use Rattle.command_text.specs.Script.{commands_of}
use Rattle.command_text.proofs.DumpLemmas.{dump_said}
use Rattle.recfile.specs.Room.{HasRoomFor, was_kept}
use Rattle.recfile.specs.Run.{ScriptTellsOf, Session}
use Rattle.recfile.proofs.DumpRunLemmas.{one_step}

abbrev Records : Type 0
Records = List (List ℕ × List ℕ)

-- the one transaction
abbrev alone : Transactions
alone = maps.insert maps.empty 1 fresh

there : get alone 1 ≡ Some fresh
there = get-inserted_tx maps.empty 1 fresh

opened : is_open alone 1 ≡ true
opened = ap (λ (o : Option Tx). Rattle.std.proofs.Common.is_some o) there

-- its puts
abbrev put_kept : List ℕ × List ℕ → Kept
put_kept e = change 0 1 e.0 None (Some (Some e.1))

abbrev puts : Records → List Change
puts es = history_of (map put_kept es)

-- the file once these records are put
abbrev loading : Bounds → Records → File
loading limits es = record { opening = maps.empty; history = puts es; begun = 1; txs = alone; limits = limits }

kept-more : (es : Records) (e : List ℕ × List ℕ) → map put_kept (es ++ e ∷ []) ≡ map put_kept es ++ put_kept e ∷ []
kept-more [] e = refl
kept-more (d ∷ es) e = ap (λ (cs : List Kept). put_kept d ∷ cs) (kept-more es e)

puts-more : (es : Records) (e : List ℕ × List ℕ) → puts (es ++ e ∷ []) ≡ puts es ++ change_of (put_kept e) ∷ []
puts-more es e = ap history_of (kept-more es e) ∙ history-push (map put_kept es) (put_kept e)

loading-more : (limits : Bounds) (es : Records) (e : List ℕ × List ℕ) → with_change (loading limits es) 1 e.0 (Some (Some e.1)) ≡ loading limits (es ++ e ∷ [])
loading-more limits es e = ap (λ (h : List Change). record { opening = maps.empty; history = h; begun = 1; txs = alone; limits = limits }) (sym (puts-more es e))

-- how many changes there are
puts-length : (es : Records) → length (puts es) ≡ length es
puts-length [] = refl
puts-length (e ∷ es) = ap suc (puts-length es)

none_taken : (es : Records) → length (filter is_taken (puts es)) ≡ 0
none_taken [] = refl
none_taken (e ∷ es) = none_taken es

all_pending : (es : Records) → length (filter (is_pending (is_open alone)) (puts es)) ≡ length es
all_pending [] = refl
all_pending (e ∷ es) = ap (λ (b : Bool). length (cond b (change_of (put_kept e) ∷ filter (is_pending (is_open alone)) (puts es)) (filter (is_pending (is_open alone)) (puts es)))) opened ∙ ap suc (all_pending es)

uses : (limits : Bounds) (es : Records) → use_of (loading limits es) ≡ 2 * length es
uses limits es = omega (arith, puts-length es, none_taken es, all_pending es)

-- no other transaction has a key
not_held : (es : Records) (x : List ℕ) → holder_of (is_open alone) (puts es) 1 x ≡ None
not_held [] x = refl
not_held (e ∷ es) x = at (is_open alone 1 && same_key e.0 x) (not_held es x)
  where
    at : (b : Bool) → other_than 1 (owner_of (is_open alone) (puts es) x) ≡ None → other_than 1 (if b then Some 1 else owner_of (is_open alone) (puts es) x) ≡ None
    at true rest = refl
    at false rest = rest

-- a put isn't refused
not_refused : (limits : Bounds) (es : Records) (x : List ℕ) → 2 * (length es + 1) ≤ limits.log_records → key_refusal true (loading limits es) 1 x ≡ None
not_refused limits es x room =
    ap (λ (o : Option Tx). active_refusal (held_refusal true (loading limits es) (held_by (loading limits es) 1 x)) (option_map phase_of o)) there
    ∙ ap (held_refusal true (loading limits es)) (not_held es x)
    ∙ at (nat_lt limits.log_records (use_of (loading limits es) + 2)) refl
  where
    at : (b : Bool) → nat_lt limits.log_records (use_of (loading limits es) + 2) ≡ b → (if b then Some refusals.LogFull else None) ≡ None
    at true is = let used = uses limits es in absurd (grind (arith, nat_tests, used, room))
    at false is = refl

-- so many keys are charged at most
abbrev charges : Records → ℕ
charges es = len (charged (is_open alone) (puts es) (replay maps.empty (puts es)))

charges-more : (es : Records) (e : List ℕ × List ℕ) → charges es ≤ length es → charges (es ++ e ∷ []) ≤ length es + 1
charges-more es e few =
    let cs : List Kept = map put_kept es in
    let m : Contents = replay maps.empty (history_of cs) in
    subst (λ (h : List Change). len (charged (is_open alone) h (replay maps.empty h)) ≤ length es + 1) (history-push cs (put_kept e) ∙ sym (puts-more es e))
    (subst (λ (n : Contents). len (charged (is_open alone) (history_of (cs ++ put_kept e ∷ [])) n) ≤ length es + 1) (sym (ap (replay maps.empty) (history-push cs (put_kept e)) ∙ replay-push (history_of cs) (change_of (put_kept e)) maps.empty))
    (charged_put (is_open alone) cs m (length es + 1) 0 1 e.0 None (Some (Some e.1)) (omega (arith, few)) (λ _. omega (arith, few))))

-- What is known of the run once these records are put.
record Loading (limits : Bounds) (es : Records) (s : Seen) : Type 0 where
  file : s.file ≡ loading limits es
  few : charges es ≤ length es
  sound : IsTrue s.sound
  failures : s.failures < greatest_count

-- whatever is in doubt
cleared : (limits : Bounds) (es : Records) (s : Seen) → Loading limits es s → Loading limits es (undoubted s)
cleared limits es s is = record { file = is.file; few = is.few; sound = is.sound; failures = is.failures }

uncleared : (limits : Bounds) (es : Records) (s : Seen) → Loading limits es (undoubted s) → Loading limits es s
uncleared limits es s is = record { file = is.file; few = is.few; sound = is.sound; failures = is.failures }

-- which call a reply tells of
begin_told : (old : Seen) → (answer : Reply) (calls : List Called) → ScriptTellsOf old (Ok command.Begin) answer calls → (told : Result TxId BeginFault) × (answer ≡ reply.Begin told) × (calls ≡ Begin told ∷ [])
begin_told old (reply.Begin answer) calls told = (answer, refl, told)
begin_told old (reply.Put answer) calls told = absurd told
begin_told old (reply.Claim answer) calls told = absurd told
begin_told old (reply.Del answer) calls told = absurd told
begin_told old (reply.Get answer) calls told = absurd told
begin_told old (reply.Save answer) calls told = absurd told
begin_told old (reply.Release answer) calls told = absurd told
begin_told old (reply.Back answer) calls told = absurd told
begin_told old (reply.Resume answer) calls told = absurd told
begin_told old (reply.Abort answer) calls told = absurd told
begin_told old (reply.Commit answer) calls told = absurd told
begin_told old (reply.List answer) calls told = absurd told
begin_told old (reply.Committed answer) calls told = absurd told
begin_told old (reply.Keys answer) calls told = absurd told
begin_told old (reply.Log size used) calls told = absurd told
begin_told old (reply.Unkept fault) calls told = absurd told
begin_told old (reply.Bad fault) calls told = absurd told

put_told : (old : Seen) → (e : List ℕ × List ℕ) (answer : Reply) (calls : List Called) → ScriptTellsOf old (put_of e) answer calls → (told : Result (Option (List ℕ)) PutFault) × (answer ≡ reply.Put told) × (calls ≡ Put (tx 1) e.0 e.1 told ∷ [])
put_told old e (reply.Begin answer) calls told = absurd told
put_told old e (reply.Put answer) calls told = (answer, refl, told)
put_told old e (reply.Claim answer) calls told = absurd told
put_told old e (reply.Del answer) calls told = absurd told
put_told old e (reply.Get answer) calls told = absurd told
put_told old e (reply.Save answer) calls told = absurd told
put_told old e (reply.Release answer) calls told = absurd told
put_told old e (reply.Back answer) calls told = absurd told
put_told old e (reply.Resume answer) calls told = absurd told
put_told old e (reply.Abort answer) calls told = absurd told
put_told old e (reply.Commit answer) calls told = absurd told
put_told old e (reply.List answer) calls told = absurd told
put_told old e (reply.Committed answer) calls told = absurd told
put_told old e (reply.Keys answer) calls told = absurd told
put_told old e (reply.Log size used) calls told = absurd told
put_told old e (reply.Unkept fault) calls told = absurd told
put_told old e (reply.Bad fault) calls told = absurd told

commit_told : (old : Seen) → (answer : Reply) (calls : List Called) → was_kept answer ≡ false → ScriptTellsOf old (Ok (command.Commit (tx 1))) answer calls → (told : Result (Unit {0}) CommitFault) × (answer ≡ reply.Commit told) × (calls ≡ Commit (tx 1) told ∷ [])
commit_told old (reply.Begin answer) calls kept told = absurd told
commit_told old (reply.Put answer) calls kept told = absurd told
commit_told old (reply.Claim answer) calls kept told = absurd told
commit_told old (reply.Del answer) calls kept told = absurd told
commit_told old (reply.Get answer) calls kept told = absurd told
commit_told old (reply.Save answer) calls kept told = absurd told
commit_told old (reply.Release answer) calls kept told = absurd told
commit_told old (reply.Back answer) calls kept told = absurd told
commit_told old (reply.Resume answer) calls kept told = absurd told
commit_told old (reply.Abort answer) calls kept told = absurd told
commit_told old (reply.Commit answer) calls kept told = (answer, refl, told)
commit_told old (reply.List answer) calls kept told = absurd told
commit_told old (reply.Committed answer) calls kept told = absurd told
commit_told old (reply.Keys answer) calls kept told = absurd told
commit_told old (reply.Log size used) calls kept told = absurd told
commit_told old (reply.Unkept fault) calls kept told = absurd (cc kept)
commit_told old (reply.Bad fault) calls kept told = absurd told

-- a put is accepted
record PutDone (limits : Bounds) (es : Records) (e : List ℕ × List ℕ) (answer : Result (Option (List ℕ)) PutFault) (new : Seen) : Type 0 where
  accepted : is_refusal (reply.Put answer) ≡ false
  loaded : Loading limits (es ++ e ∷ []) new

both_none : {A : Type 0} (o : Option A) (x : A) → o ≡ None → o ≡ Some x → ⊥
both_none o x none some = absurd (cc)

put_done : (limits : Bounds) (es : Records) (e : List ℕ × List ℕ) (old new : Seen) (answer : Result (Option (List ℕ)) PutFault) (failed refused : Bool)
    → Loading limits es old → 2 * (length es + 1) ≤ limits.log_records → length es < limits.records → was_kept (reply.Put answer) ≡ false
    → new.failures ≡ counted old.failures failed → new.sound ≡ old.sound → Answers old (Put (tx 1) e.0 e.1 answer) failed refused new → PutDone limits es e answer new
put_done limits es e old new answer failed refused before log room kept counts sounds known = at answer kept known
  where
    free : key_refusal true old.file 1 e.0 ≡ None
    free = ap (λ (f : File). key_refusal true f 1 e.0) before.file ∙ not_refused limits es e.0 log

    roomy : is_full old.file e.0 ≡ false
    roomy = ap (λ (f : File). is_full f e.0) before.file ∙ sym (below_not_full (loading limits es) e.0 (charges es) refl (omega (arith, before.few, room)))

    at : (a : Result (Option (List ℕ)) PutFault) → was_kept (reply.Put a) ≡ false → Answers old (Put (tx 1) e.0 e.1 a) failed refused new → PutDone limits es e a new
    at (Ok stood) kept known =
        let step = known.1.step before.sound before.failures in
        record {
          accepted = refl;
          loaded = record {
            file = step.4 ∙ ap (λ (f : File). with_change f 1 e.0 (Some (Some e.1))) before.file ∙ loading-more limits es e;
            few = omega (arith, charges-more es e before.few, length-append es (e ∷ []));
            sound = sounds ∙ before.sound;
            failures = subst (λ n. n < greatest_count) (sym (counts ∙ ap (counted old.failures) known.0.0)) before.failures;
          };
        }
    at (Err put_faults.NoSuchTx) kept known = absurd (both_none (key_refusal true old.file 1 e.0) refusals.NoSuchTx free (known.1.step before.sound before.failures).0.0)
    at (Err put_faults.Rolling) kept known = absurd (both_none (key_refusal true old.file 1 e.0) refusals.Rolling free (known.1.step before.sound before.failures).0.0)
    at (Err (put_faults.Held owner)) kept known = absurd (both_none (key_refusal true old.file 1 e.0) (refusals.Held owner) free (known.1.step before.sound before.failures).0.0)
    at (Err put_faults.LogFull) kept known = absurd (both_none (key_refusal true old.file 1 e.0) refusals.LogFull free (known.1.step before.sound before.failures).0.0)
    at (Err put_faults.Device) kept known = absurd (cc)
    at (Err (put_faults.Damaged page)) kept known = absurd (cc)
    at (Err put_faults.Full) kept known = let step = known.1.step before.sound before.failures in let full = step.0.2 in absurd (cc (roomy, full))
    at (Err put_faults.Memory) kept known = absurd (cc)

-- the commit is accepted
commit_done : (limits : Bounds) (es : Records) (old new : Seen) (answer : Result (Unit {0}) CommitFault) (failed refused : Bool) → Loading limits es old → Answers old (Commit (tx 1) answer) failed refused new → is_refusal (reply.Commit answer) ≡ false
commit_done limits es old new answer failed refused before known = at answer known
  where
    active : phase_at old.file 1 ≡ Some Active
    active = ap (λ (f : File). phase_at f 1) before.file ∙ ap (option_map phase_of) there

    at : (a : Result (Unit {0}) CommitFault) → Answers old (Commit (tx 1) a) failed refused new → is_refusal (reply.Commit a) ≡ false
    at (Ok done) known = refl
    at (Err fault) known = absurd (both_none (active_refusal None (phase_at old.file 1)) (commit_refusal fault) (ap (active_refusal None) active) known.1.0)

abbrev Accepted : List Reply → Type 0
Accepted replies = All (λ r. is_refusal r ≡ false) replies

abbrev Unkept : List Reply → Type 0
Unkept replies = All (λ r. was_kept r ≡ false) replies

-- the puts and the commit are accepted
rest_accepted : (limits : Bounds) (done es : Records) (count : ℕ) (old new : Seen) (replies : List Reply) → HasRoomFor count limits → length done + length es ≤ count → Loading limits done old
    → Session old (map put_of es ++ Ok (command.Commit (tx 1)) ∷ []) replies new → Unkept replies → Accepted replies
rest_accepted limits done [] count old new [] room fits before ran kept = absurd ran
rest_accepted limits done [] count old new (answer ∷ next ∷ replies) room fits before ran kept = absurd ran.2
rest_accepted limits done [] count old new (answer ∷ []) room fits before ran kept =
    let step = ran.1 in
    let told = commit_told old answer (map (λ e. e.called) step.events) (All-head (λ r. was_kept r ≡ false) answer [] kept) step.told in
    let one = one_step (undoubted old) (undoubted ran.0) step.events (Commit (tx 1) told.0) told.2 step.ran in
    let known = subst (λ (called : Called). Answers (undoubted old) called one.0.failed one.0.refused (undoubted ran.0)) one.1 one.2.happens.answer in
    All-cons (λ r. is_refusal r ≡ false) answer [] (ap is_refusal told.1 ∙ commit_done limits done (undoubted old) (undoubted ran.0) told.0 one.0.failed one.0.refused (cleared limits done old before) known) (All-nil (λ r. is_refusal r ≡ false))
rest_accepted limits done (e ∷ es) count old new [] room fits before ran kept = absurd ran
rest_accepted limits done (e ∷ es) count old new (answer ∷ replies) room fits before ran kept =
    let step = ran.1 in
    let told = put_told old e answer (map (λ e. e.called) step.events) step.told in
    let one = one_step (undoubted old) (undoubted ran.0) step.events (Put (tx 1) e.0 e.1 told.0) told.2 step.ran in
    let known = subst (λ (called : Called). Answers (undoubted old) called one.0.failed one.0.refused (undoubted ran.0)) one.1 one.2.happens.answer in
    let unkept = sym (ap was_kept told.1) ∙ All-head (λ r. was_kept r ≡ false) answer replies kept in
    let put = put_done limits done e (undoubted old) (undoubted ran.0) told.0 one.0.failed one.0.refused (cleared limits done old before) (omega (arith, room.log, fits)) (omega (arith, room.records, fits)) unkept one.2.happens.failures one.2.happens.sound known in
    All-cons (λ r. is_refusal r ≡ false) answer replies (ap is_refusal told.1 ∙ put.accepted)
    (rest_accepted limits (done ++ e ∷ []) es count ran.0 new replies room (omega (arith, fits, length-append done (e ∷ []))) (uncleared limits (done ++ e ∷ []) ran.0 put.loaded) ran.2 (All-tail (λ r. was_kept r ≡ false) answer replies kept))

-- the transaction begins
record BeginDone (limits : Bounds) (answer : Result TxId BeginFault) (new : Seen) : Type 0 where
  accepted : is_refusal (reply.Begin answer) ≡ false
  loaded : Loading limits [] new

begin_done : (limits : Bounds) (old new : Seen) (answer : Result TxId BeginFault) (failed refused : Bool) → old.file ≡ new_file maps.empty limits → IsTrue old.sound → old.failures < greatest_count → 0 < limits.begins
    → was_kept (reply.Begin answer) ≡ false → new.failures ≡ counted old.failures failed → new.sound ≡ old.sound → Answers old (Begin answer) failed refused new → BeginDone limits answer new
begin_done limits old new answer failed refused is sound few begins kept counts sounds known = at answer kept known
  where
    spent : old.file.limits.begins ≤ old.file.begun → ⊥
    spent all = absurd (omega (arith, begins, all, ap (λ (f : File). f.begun) is, ap (λ (f : File). f.limits.begins) is))

    none : charges [] ≤ 0
    none = omega (arith, len-empty (slice_cmp nat_cmp) (List ℕ))

    at : (a : Result TxId BeginFault) → was_kept (reply.Begin a) ≡ false → Answers old (Begin a) failed refused new → BeginDone limits a new
    at (Ok begun) kept known = record {
      accepted = refl;
      loaded = record {
        file = known.1.2 ∙ ap (λ (f : File). record f { begun = f.begun + 1; txs = maps.insert f.txs (f.begun + 1) fresh }) is;
        few = none;
        sound = sounds ∙ sound;
        failures = subst (λ n. n < greatest_count) (sym (counts ∙ ap (counted old.failures) known.0.0)) few;
      };
    }
    at (Err begin_faults.BeginsSpent) kept known = absurd (spent known.1.0)
    at (Err begin_faults.Memory) kept known = absurd (cc)

all_accepted : (limits : Bounds) (es : Records) (old new : Seen) (replies : List Reply) → old.file ≡ new_file maps.empty limits → IsTrue old.sound → old.failures < greatest_count → HasRoomFor (length es) limits
    → Session old (dump_commands es) replies new → Unkept replies → Accepted replies
all_accepted limits es old new [] is sound few room ran kept = absurd ran
all_accepted limits es old new (answer ∷ replies) is sound few room ran kept =
    let step = ran.1 in
    let told = begin_told old answer (map (λ e. e.called) step.events) step.told in
    let one = one_step (undoubted old) (undoubted ran.0) step.events (Begin told.0) told.2 step.ran in
    let known = subst (λ (called : Called). Answers (undoubted old) called one.0.failed one.0.refused (undoubted ran.0)) one.1 one.2.happens.answer in
    let unkept = sym (ap was_kept told.1) ∙ All-head (λ r. was_kept r ≡ false) answer replies kept in
    let begun = begin_done limits (undoubted old) (undoubted ran.0) told.0 one.0.failed one.0.refused is sound few room.begins unkept one.2.happens.failures one.2.happens.sound known in
    All-cons (λ r. is_refusal r ≡ false) answer replies (ap is_refusal told.1 ∙ begun.accepted)
    (rest_accepted limits [] es (length es) ran.0 new replies room (omega arith) (uncleared limits [] ran.0 begun.loaded) ran.2 (All-tail (λ r. was_kept r ≡ false) answer replies kept))

-- a dump that is run over a new file with room for it has no refusal
pub dump_accepted : (limits : Bounds) (old new : Seen) (records : Contents) (replies : List Reply) → old.file ≡ new_file maps.empty limits → IsTrue old.sound → old.failures < greatest_count → All CanBePut (maps.entries records)
    → HasRoomFor (length (maps.entries records)) limits → Session old (commands_of (dump_text (maps.entries records))) replies new → Unkept replies → Accepted replies
dump_accepted limits old new records replies is sound few can room ran kept =
    all_accepted limits (maps.entries records) old new replies is sound few room (subst (λ (es : List (Read Command)). Session old es replies new) (dump_said (maps.entries records) can) ran) kept
