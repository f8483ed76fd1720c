-- A run grows by one line at a time.
use Rattle.std.proofs.Common.{◌≡◌, ℕ, ◌+◌, ◌<◌, ◌≤◌, Bool, true, false, cond, List, [], ◌∷◌, ◌++◌, length, filter, take, Option, Some, None, Ok, Err, IsTrue, refl, sym, ap, subst, ◌∙◌, arith}
use Rattle.std.proofs.lemmas.Grind.{common_steps}
use Rattle.std.specs.List.{All, flat_map}
use Rattle.std.specs.Io.KnownBytes.{Appends}
use Rattle.std.proofs.KnownBytes.{Appends-trans}
use Rattle.std.proofs.lemmas.List.{append_assoc, append-nil, length-append}
use Rattle.std.proofs.lemmas.List.Elements.{All-nil, All-cons, All-append}
use Rattle.command_text.specs.declared.command.Command.{Command}
use Rattle.command_text.specs.declared.reply.Reply.{Reply}
use Rattle.command_text.specs.Grammar.{Read, line_of}
use Rattle.command_text.specs.Refusals.{is_refusal}
use Rattle.command_text.specs.Script.{lines_of, entries_in, commands_of, keep}
use Rattle.command_text.specs.Texts.{text_of}
use Rattle.file_session.proofs.ScriptCutLemmas.{keep-append}
use Rattle.recfile.specs.Run.{HasReply, LineHasReply, Session, Served, IsUnsent, AcceptedIf, LinesStop, RefusedAt, is_command, says_command, commands}
use Rattle.record_file.specs.Runs.{Seen}
use Rattle.recfile.specs.declared.script.RunFault.TheVariants.{Script}
use Rattle.recfile.specs.declared.script.ScriptFault.{ScriptFault}

-- a session with one more command and its reply
pub session-more : (old mid new : Seen) (front : List (Read Command)) (replies : List Reply) (said : Read Command) (answer : Reply) → Session old front replies mid → HasReply mid said answer new → Session old (front ++ said ∷ []) (replies ++ answer ∷ []) new
session-more old mid new [] [] said answer ran step = (new, subst (λ (s : Seen). HasReply s said answer new) ran step, refl)
session-more old mid new [] (first ∷ replies) said answer ran step = absurd ran
session-more old mid new (entry ∷ front) [] said answer ran step = absurd ran
session-more old mid new (entry ∷ front) (first ∷ replies) said answer ran step = (ran.0, ran.1, session-more ran.0 mid new front replies said answer ran.2 step)

pub commands-more : (front : List (Read Command)) (line : Read Command) → commands (front ++ line ∷ []) ≡ commands front + cond (is_command line) 1 0
commands-more [] line = at (is_command line)
  where
    at : (b : Bool) → length (cond b (line ∷ []) []) ≡ 0 + cond b 1 0
    at true = refl
    at false = refl
commands-more (entry ∷ front) line = at (is_command entry) (commands-more front line)
  where
    at : (b : Bool) → commands (front ++ line ∷ []) ≡ commands front + cond (is_command line) 1 0 → length (cond b (entry ∷ filter is_command (front ++ line ∷ [])) (filter is_command (front ++ line ∷ []))) ≡ length (cond b (entry ∷ filter is_command front) (filter is_command front)) + cond (is_command line) 1 0
    at true is = omega (arith, is)
    at false is = is

-- a line that has a reply says something: one entry of the script
pub record Entry (mid : Seen) (line : Read (Option Command)) (answer : Reply) (new : Seen) : Type 0 where
  pub said : Read Command
  pub kept : (rest : List (Read Command)) → keep line rest ≡ said ∷ rest
  pub counted : is_command said ≡ says_command line
  pub step : HasReply mid said answer new

pub entry_of : (mid new : Seen) (line : Read (Option Command)) (answer : Reply) → LineHasReply mid line answer new → Entry mid line answer new
entry_of mid new (Ok None) answer step = absurd step
entry_of mid new (Ok (Some c)) answer step = record { said = Ok c; kept = λ rest. refl; counted = refl; step = step }
entry_of mid new (Err fault) answer step = record { said = Err fault; kept = λ rest. refl; counted = refl; step = step }

-- the front of a script was run, line by line
pub record Walked (script rest : List ℕ) (old : Seen) (replies : List Reply) (new : Seen) (done lines : ℕ) : Type 0 where
  pub passed : List (List ℕ)
  pub split : lines_of script ≡ passed ++ lines_of rest
  pub ran : Session old (entries_in passed) replies new
  pub count : done ≡ commands (entries_in passed)
  pub place : lines ≡ length passed

-- before the first line
pub walked_none : (script : List ℕ) (old : Seen) → Walked script script old [] old 0 0
walked_none script old = record { passed = []; split = refl; ran = refl; count = refl; place = refl }

entries-append : (xs ys : List (List ℕ)) → entries_in (xs ++ ys) ≡ entries_in xs ++ entries_in ys
entries-append [] ys = refl
entries-append (x ∷ xs) ys = ap (keep (line_of x)) (entries-append xs ys) ∙ keep-append (line_of x) (entries_in xs) (entries_in ys)

pub length-more : (xs : List (List ℕ)) (x : List ℕ) → length xs + 1 ≡ length (xs ++ x ∷ [])
length-more xs x = omega (arith, length-append xs (x ∷ []))

-- one more line of the script that has a reply
pub walked-more : (script rest after line : List ℕ) (old mid new : Seen) (replies : List Reply) (done more lines : ℕ) (said : Read (Option Command)) (answer : Reply) → Walked script rest old replies mid done lines → lines_of rest ≡ line ∷ lines_of after → said ≡ line_of line → LineHasReply mid said answer new → more ≡ done + cond (says_command said) 1 0 → Walked script after old (replies ++ answer ∷ []) new more (lines + 1)
walked-more script rest after line old mid new replies done more lines said answer walked cut reads step count =
    let e = entry_of mid new said answer step in
    let entries : entries_in (walked.passed ++ line ∷ []) ≡ entries_in walked.passed ++ e.said ∷ [] = entries-append walked.passed (line ∷ []) ∙ ap (λ es. entries_in walked.passed ++ es) (ap (λ (l : Read (Option Command)). keep l []) (sym reads) ∙ e.kept []) in
    record {
      passed = walked.passed ++ line ∷ [];
      split = walked.split ∙ ap (λ ls. walked.passed ++ ls) cut ∙ sym (append_assoc walked.passed (line ∷ []) (lines_of after));
      ran = subst (λ es. Session old es (replies ++ answer ∷ []) new) (sym entries) (session-more old mid new (entries_in walked.passed) replies e.said answer walked.ran e.step);
      count = count ∙ ap (λ n. n + cond (says_command said) 1 0) walked.count ∙ ap (λ b. commands (entries_in walked.passed) + cond b 1 0) (sym e.counted) ∙ sym (commands-more (entries_in walked.passed) e.said) ∙ ap commands (sym entries);
      place = ap (λ n. n + 1) walked.place ∙ length-more walked.passed line;
    }

-- one more line of the script that says nothing
pub walked-on : (script rest after line : List ℕ) (old mid new : Seen) (replies : List Reply) (done lines : ℕ) (said : Read (Option Command)) → Walked script rest old replies mid done lines → lines_of rest ≡ line ∷ lines_of after → said ≡ line_of line → said ≡ Ok None → new ≡ mid → Walked script after old replies new done (lines + 1)
walked-on script rest after line old mid new replies done lines said walked cut reads nothing same =
    let entries : entries_in (walked.passed ++ line ∷ []) ≡ entries_in walked.passed = entries-append walked.passed (line ∷ []) ∙ ap (λ es. entries_in walked.passed ++ es) (ap (λ (l : Read (Option Command)). keep l []) (sym reads ∙ nothing)) ∙ append-nil (entries_in walked.passed) in
    record {
      passed = walked.passed ++ line ∷ [];
      split = walked.split ∙ ap (λ ls. walked.passed ++ ls) cut ∙ sym (append_assoc walked.passed (line ∷ []) (lines_of after));
      ran = subst (λ es. Session old es replies new) (sym entries) (subst (λ (s : Seen). Session old (entries_in walked.passed) replies s) (sym same) walked.ran);
      count = walked.count ∙ ap commands (sym entries);
      place = ap (λ n. n + 1) walked.place ∙ length-more walked.passed line;
    }

-- what a walk says of the script's entries
pub served : (script rest : List ℕ) (old new : Seen) (replies : List Reply) (done lines : ℕ) → Walked script rest old replies new done lines → Served script rest old replies new done
served script rest old new replies done lines walked = record {
  front = entries_in walked.passed;
  split = ap entries_in walked.split ∙ entries-append walked.passed (lines_of rest);
  ran = walked.ran;
  count = walked.count;
}

-- none of some replies is a refusal, nor is one more
pub accepted-more : (strict : Bool) (replies : List Reply) (answer : Reply) → AcceptedIf strict replies → (IsTrue strict → is_refusal answer ≡ false) → AcceptedIf strict (replies ++ answer ∷ [])
accepted-more strict replies answer before now is = All-append (λ r. is_refusal r ≡ false) replies (answer ∷ []) (before is) (All-cons (λ r. is_refusal r ≡ false) answer [] (now is) (All-nil (λ r. is_refusal r ≡ false)))

-- a line whose reply is a refusal ends the run
pub refused_at : (held holds : Option (List ℕ)) (script rest after line : List ℕ) (old mid new : Seen) (replies : List Reply) (done lines : ℕ) (said : Read (Option Command)) (answer : Reply) → Walked script rest old replies mid done lines → lines_of rest ≡ line ∷ lines_of after → said ≡ line_of line → LineHasReply mid said answer new → All (λ r. is_refusal r ≡ false) replies → is_refusal answer ≡ true → Appends held holds (flat_map text_of (replies ++ answer ∷ [])) → RefusedAt held holds old new script (lines + 1)
refused_at held holds script rest after line old mid new replies done lines said answer walked cut reads step accepted refused written = record {
  before = walked.passed;
  line = line;
  after = lines_of after;
  split = walked.split ∙ ap (λ ls. walked.passed ++ ls) cut;
  place = ap (λ n. n + 1) walked.place;
  replies = replies;
  mid = mid;
  ran = walked.ran;
  accepted = accepted;
  last = answer;
  reply = subst (λ (l : Read (Option Command)). LineHasReply mid l answer new) reads step;
  refused = refused;
  written = written;
}

-- all was run where nothing is left
pub served-all : (script rest : List ℕ) (old new : Seen) (replies : List Reply) (done : ℕ) → Served script rest old replies new done → commands_of rest ≡ [] → Session old (commands_of script) replies new × (done ≡ commands (commands_of script))
served-all script rest old new replies done served over =
    let all = sym (served.split ∙ ap (λ es. served.front ++ es) over ∙ append-nil served.front) in
    (subst (λ es. Session old es replies new) all served.ran, served.count ∙ ap commands all)

-- no text is written
pub written-none : (held : Option (List ℕ)) → Appends held held []
written-none None = tt
written-none (Some bytes) = sym (append-nil bytes)

-- the text of one more reply behind those written before
pub written-more : (a b c : Option (List ℕ)) (replies : List Reply) (answer : Reply) (text : List ℕ) → Appends a b (flat_map text_of replies) → Appends b c text → text ≡ text_of answer → Appends a c (flat_map text_of (replies ++ answer ∷ []))
written-more a b c replies answer text before now is = subst (λ bs. Appends a c bs) (ap (λ t. flat_map text_of replies ++ t) is ∙ sym (texts replies answer)) (Appends-trans a b c (flat_map text_of replies) text before now)
  where
    texts : (rs : List Reply) (r : Reply) → flat_map text_of (rs ++ r ∷ []) ≡ flat_map text_of rs ++ text_of r
    texts rs r = grind (arith, common_steps)

-- a reply that wasn't sent ends the run
pub stops_at : (strict : Bool) (held mid holds : Option (List ℕ)) (old new : Seen) (script after : List ℕ) (replies : List Reply) (answer : Reply) (done : ℕ) (fault : ScriptFault) → Served script after old (replies ++ answer ∷ []) new done → Appends held mid (flat_map text_of replies) → IsUnsent mid holds done (text_of answer) fault → AcceptedIf strict replies → LinesStop strict held holds old new script (Script fault)
stops_at strict held mid holds old new script after replies answer done fault served written unsent accepted = (
  record {
    replies = replies;
    last = answer;
    rest = after;
    sent = unsent.sent;
    served = subst (λ k. Served script after old (replies ++ answer ∷ []) new k) (sym unsent.count) served;
    front = unsent.front;
    written = Appends-trans held mid holds (flat_map text_of replies) (take unsent.sent (text_of answer)) written unsent.written;
  },
  accepted,
)

-- each command takes a byte of the script at least
pub count_fits : (b : Bool) (done more rest after limit : ℕ) → more ≡ cond b 1 0 → done + rest ≤ limit → after < rest → done + more + after ≤ limit
count_fits true done more rest after limit is fits lt = omega (arith, is, fits, lt)
count_fits false done more rest after limit is fits lt = omega (arith, is, fits, lt)

-- and so does each line
pub lines_fit : (lines rest after limit : ℕ) → lines + rest ≤ limit → after < rest → lines + 1 + after ≤ limit
lines_fit lines rest after limit fits lt = omega (arith, fits, lt)
