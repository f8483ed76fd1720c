-- The run of a dump over a file without records.
use Rattle.std.proofs.Common.{◌≡◌, ℕ, Bool, true, false, cond, ◌&&◌, T, IsTrue, List, [], ◌∷◌, ◌++◌, map, Option, Some, None, Result, Ok, Err, refl, sym, ap, subst, ◌∙◌}
use Rattle.std.specs.List.{All}
use Rattle.std.specs.FinMap as maps
use Rattle.std.specs.FinMap.{get, insert, get-insert, get-empty, get-entries, entries_sorted, find, is_sorted}
use Rattle.std.specs.FinMap.Entries.{below_all}
use Rattle.std.specs.Ordering.{nat_cmp, is_lt, is_eq}
use Rattle.std.specs.Cmp.Lexicographic.{slice_cmp, nat_list_cmp_total}
use Rattle.std.specs.declared.cmp.Ordering.{Ordering}
use Rattle.std.specs.declared.cmp.Ordering.TheVariants.{Less, Equal, Greater}
use Rattle.std.proofs.lemmas.List.{append_cancel_left}
use Rattle.std.proofs.lemmas.List.Elements.{All-head, All-tail}
use Rattle.rec_types.specs.Contents.{Contents, same_key}
use Rattle.rec_types.proofs.ContentsLemmas.{same_contents, same_key-is}
use Rattle.rec_types.specs.declared.transaction.TxId.{TxId}
use Rattle.tx_log.specs.declared.phase.BeginFault.{BeginFault}
use Rattle.record_file.specs.Abstract.{written}
use Rattle.record_file.specs.declared.fault.CommitFault.{CommitFault}
use Rattle.record_file.specs.Runs.{Called, Event, Seen, Step, Run, Answers, Begin, Put, Commit, undoubted}
use Rattle.command_text.specs.declared.command.Command.{Command}
use Rattle.command_text.specs.declared.command.Command.TheVariants as command
use Rattle.command_text.specs.declared.reply.Reply.{Reply}
use Rattle.command_text.specs.declared.reply.Reply.TheVariants as reply
use Rattle.command_text.specs.Dump.{put_of, dump_text, dump_commands, CanBePut}
use Rattle.command_text.specs.Examples.{tx}
use Rattle.command_text.specs.Grammar.{Read}
use Rattle.command_text.specs.Refusals.{is_refusal}
use Rattle.command_text.specs.Script.{commands_of}
use Rattle.command_text.proofs.DumpLemmas.{dump_said}
use Rattle.recfile.specs.Run.{ScriptTellsOf, HasReply, Session}

abbrev order : List ℕ → List ℕ → Ordering
order = slice_cmp nat_cmp

-- the contents with each element put at its key, one after another
abbrev inserted : Contents → List (List ℕ × List ℕ) → Contents
inserted m [] = m
inserted m (e ∷ es) = inserted (insert m e.0 e.1) es

abbrev or_else : Option (List ℕ) → Option (List ℕ) → Option (List ℕ)
or_else (Some v) o = Some v
or_else None o = o

or_none : (o : Option (List ℕ)) → or_else o None ≡ o
or_none (Some v) = refl
or_none None = refl

first : (a b : Bool) → T (a && b) → T a
first true b p = tt
first false b p = p

second : (a b : Bool) → T (a && b) → T b
second true b p = p
second false b p = absurd p

-- no element above a key is at it
absent : (k : List ℕ) (es : List (List ℕ × List ℕ)) → T (below_all order k es) → find order k es ≡ None
absent k [] below = refl
absent k (e ∷ es) below = at (order k e.0) below (absent k es)
  where
    at : (o : Ordering) → T (is_lt o && below_all order k es) → (T (below_all order k es) → find order k es ≡ None) → cond (is_eq o) (Some e.1) (find order k es) ≡ None
    at Less below rest = rest below
    at Equal below rest = absurd below
    at Greater below rest = absurd below

get_inserted : (m : Contents) (es : List (List ℕ × List ℕ)) (q : List ℕ) → T (is_sorted order es) → get (inserted m es) q ≡ or_else (find order q es) (get m q)
get_inserted m [] q sorted = refl
get_inserted m (e ∷ es) q sorted =
    get_inserted (insert m e.0 e.1) es q (second (below_all order e.0 es) (is_sorted order es) sorted)
    ∙ ap (or_else (find order q es)) (get-insert nat_list_cmp_total m e.0 e.1 q)
    ∙ at (same_key q e.0) (λ is. subst (λ (x : List ℕ). find order x es ≡ None) (sym (same_key-is q e.0 is)) (absent e.0 es (first (below_all order e.0 es) (is_sorted order es) sorted)))
  where
    at : (b : Bool) → (b ≡ true → find order q es ≡ None) → or_else (find order q es) (cond b (Some e.1) (get m q)) ≡ or_else (cond b (Some e.1) (find order q es)) (get m q)
    at true none = ap (λ (o : Option (List ℕ)). or_else o (Some e.1)) (none refl)
    at false none = refl

-- the elements of contents, put one after another, are the contents
inserted_all : (m : Contents) → inserted maps.empty (maps.entries m) ≡ m
inserted_all m = same_contents (inserted maps.empty (maps.entries m)) m (λ q.
    get_inserted maps.empty (maps.entries m) q (entries_sorted m)
    ∙ ap (or_else (find order q (maps.entries m))) (get-empty order q)
    ∙ or_none (find order q (maps.entries m))
    ∙ sym (get-entries m q))

-- a run of one call is one step
pub one_step : (old new : Seen) (events : List Event) (called : Called) → map (λ e. e.called) events ≡ called ∷ [] → Run old events new → (e : Event) × (e.called ≡ called) × Step old e new
one_step old new [] called is ran = absurd (cc)
one_step old new (e ∷ []) called is ran = (e, cc, subst (λ (s : Seen). Step old e s) (sym ran.2) ran.1)
one_step old new (e ∷ f ∷ es) called is ran = absurd (cc)

-- which call an accepted reply tells of
told_begin : (old : Seen) → (answer : Reply) (calls : List Called) → ScriptTellsOf old (Ok command.Begin) answer calls → is_refusal answer ≡ false → (told : Result TxId BeginFault) × (calls ≡ Begin told ∷ [])
told_begin old (reply.Begin answer) calls told accepted = (answer, told)
told_begin old (reply.Put answer) calls told accepted = absurd told
told_begin old (reply.Claim answer) calls told accepted = absurd told
told_begin old (reply.Del answer) calls told accepted = absurd told
told_begin old (reply.Get answer) calls told accepted = absurd told
told_begin old (reply.Save answer) calls told accepted = absurd told
told_begin old (reply.Release answer) calls told accepted = absurd told
told_begin old (reply.Back answer) calls told accepted = absurd told
told_begin old (reply.Resume answer) calls told accepted = absurd told
told_begin old (reply.Abort answer) calls told accepted = absurd told
told_begin old (reply.Commit answer) calls told accepted = absurd told
told_begin old (reply.List answer) calls told accepted = absurd told
told_begin old (reply.Committed answer) calls told accepted = absurd told
told_begin old (reply.Keys answer) calls told accepted = absurd told
told_begin old (reply.Log len used) calls told accepted = absurd told
told_begin old (reply.Unkept fault) calls told accepted = absurd told
told_begin old (reply.Bad fault) calls told accepted = absurd told

told_commit : (old : Seen) → (answer : Reply) (calls : List Called) → ScriptTellsOf old (Ok (command.Commit (tx 1))) answer calls → is_refusal answer ≡ false → (told : Result (Unit {0}) CommitFault) × (calls ≡ Commit (tx 1) told ∷ [])
told_commit old (reply.Begin answer) calls told accepted = absurd told
told_commit old (reply.Put answer) calls told accepted = absurd told
told_commit old (reply.Claim answer) calls told accepted = absurd told
told_commit old (reply.Del answer) calls told accepted = absurd told
told_commit old (reply.Get answer) calls told accepted = absurd told
told_commit old (reply.Save answer) calls told accepted = absurd told
told_commit old (reply.Release answer) calls told accepted = absurd told
told_commit old (reply.Back answer) calls told accepted = absurd told
told_commit old (reply.Resume answer) calls told accepted = absurd told
told_commit old (reply.Abort answer) calls told accepted = absurd told
told_commit old (reply.Commit answer) calls told accepted = (answer, told)
told_commit old (reply.List answer) calls told accepted = absurd told
told_commit old (reply.Committed answer) calls told accepted = absurd told
told_commit old (reply.Keys answer) calls told accepted = absurd told
told_commit old (reply.Log len used) calls told accepted = absurd told
told_commit old (reply.Unkept fault) calls told accepted = absurd (cc accepted)
told_commit old (reply.Bad fault) calls told accepted = absurd told

told_put : (old : Seen) → (e : List ℕ × List ℕ) (answer : Reply) (calls : List Called) → ScriptTellsOf old (put_of e) answer calls → is_refusal answer ≡ false → (before : Option (List ℕ)) × (calls ≡ Put (tx 1) e.0 e.1 (Ok before) ∷ [])
told_put old e (reply.Begin answer) calls told accepted = absurd told
told_put old e (reply.Put (Ok before)) calls told accepted = (before, told)
told_put old e (reply.Put (Err fault)) calls told accepted = absurd (cc)
told_put old e (reply.Claim answer) calls told accepted = absurd told
told_put old e (reply.Del answer) calls told accepted = absurd told
told_put old e (reply.Get answer) calls told accepted = absurd told
told_put old e (reply.Save answer) calls told accepted = absurd told
told_put old e (reply.Release answer) calls told accepted = absurd told
told_put old e (reply.Back answer) calls told accepted = absurd told
told_put old e (reply.Resume answer) calls told accepted = absurd told
told_put old e (reply.Abort answer) calls told accepted = absurd told
told_put old e (reply.Commit answer) calls told accepted = absurd told
told_put old e (reply.List answer) calls told accepted = absurd told
told_put old e (reply.Committed answer) calls told accepted = absurd told
told_put old e (reply.Keys answer) calls told accepted = absurd told
told_put old e (reply.Log len used) calls told accepted = absurd told
told_put old e (reply.Unkept fault) calls told accepted = absurd told
told_put old e (reply.Bad fault) calls told accepted = absurd told

-- what a step leaves of the records
record Leads (old : Seen) (left : Contents) (new : Seen) : Type 0 where
  records : new.records ≡ left
  sound : new.sound ≡ old.sound

begun : (old new : Seen) (answer : Reply) → HasReply old (Ok command.Begin) answer new → is_refusal answer ≡ false → Leads old old.records new
begun old new answer reply accepted =
    let told = told_begin old answer (map (λ e. e.called) reply.events) reply.told accepted in
    let step = one_step (undoubted old) (undoubted new) reply.events (Begin told.0) told.1 reply.ran in
    let same = subst (λ (called : Called). Answers (undoubted old) called step.0.failed step.0.refused (undoubted new)) step.1 step.2.happens.answer in
    record { records = ap (λ (s : Seen). s.records) same.0.2; sound = step.2.happens.sound }

committed : (old new : Seen) (answer : Reply) → HasReply old (Ok (command.Commit (tx 1))) answer new → is_refusal answer ≡ false → Leads old old.records new
committed old new answer reply accepted =
    let told = told_commit old answer (map (λ e. e.called) reply.events) reply.told accepted in
    let step = one_step (undoubted old) (undoubted new) reply.events (Commit (tx 1) told.0) told.1 reply.ran in
    let same = subst (λ (called : Called). Answers (undoubted old) called step.0.failed step.0.refused (undoubted new)) step.1 step.2.happens.answer in
    record { records = ap (λ (s : Seen). s.records) same.0.2; sound = step.2.happens.sound }

put : (old new : Seen) (e : List ℕ × List ℕ) (answer : Reply) → HasReply old (put_of e) answer new → is_refusal answer ≡ false → IsTrue old.sound → Leads old (insert old.records e.0 e.1) new
put old new e answer reply accepted sound =
    let told = told_put old e answer (map (λ e. e.called) reply.events) reply.told accepted in
    let step = one_step (undoubted old) (undoubted new) reply.events (Put (tx 1) e.0 e.1 (Ok told.0)) told.1 reply.ran in
    let known = subst (λ (called : Called). Answers (undoubted old) called step.0.failed step.0.refused (undoubted new)) step.1 step.2.happens.answer in
    let logged = known.1.accepted.logged in
    let more = append_cancel_left old.log step.2.happens.told.0 _ (sym step.2.happens.told.1 ∙ logged) in
    record { records = step.2.happens.told.2 sound ∙ ap (written old.records) more; sound = step.2.happens.sound }

-- the commands of a dump put each element
loaded : (old new : Seen) (es : List (List ℕ × List ℕ)) (replies : List Reply) → Session old (map put_of es ++ Ok (command.Commit (tx 1)) ∷ []) replies new → All (λ r. is_refusal r ≡ false) replies → IsTrue old.sound → new.records ≡ inserted old.records es
loaded old new [] [] ran accepted sound = absurd ran
loaded old new [] (answer ∷ []) ran accepted sound = ap (λ (s : Seen). s.records) ran.2 ∙ (committed old ran.0 answer ran.1 (All-head (λ r. is_refusal r ≡ false) answer [] accepted)).records
loaded old new [] (answer ∷ next ∷ replies) ran accepted sound = absurd ran.2
loaded old new (e ∷ es) [] ran accepted sound = absurd ran
loaded old new (e ∷ es) (answer ∷ replies) ran accepted sound =
    let step = put old ran.0 e answer ran.1 (All-head (λ r. is_refusal r ≡ false) answer replies accepted) sound in
    loaded ran.0 new es replies ran.2 (All-tail (λ r. is_refusal r ≡ false) answer replies accepted) (step.sound ∙ sound)
    ∙ ap (λ (m : Contents). inserted m es) step.records

all_loaded : (old new : Seen) (es : List (List ℕ × List ℕ)) (replies : List Reply) → Session old (dump_commands es) replies new → All (λ r. is_refusal r ≡ false) replies → IsTrue old.sound → new.records ≡ inserted old.records es
all_loaded old new es [] ran accepted sound = absurd ran
all_loaded old new es (answer ∷ replies) ran accepted sound =
    let step = begun old ran.0 answer ran.1 (All-head (λ r. is_refusal r ≡ false) answer replies accepted) in
    loaded ran.0 new es replies ran.2 (All-tail (λ r. is_refusal r ≡ false) answer replies accepted) (step.sound ∙ sound)
    ∙ ap (λ (m : Contents). inserted m es) step.records

-- a dump that is run over a file without records, with no refusal, gives its records
pub dump_loaded : (old new : Seen) (records : Contents) (replies : List Reply) → IsTrue old.sound → old.records ≡ maps.empty → All CanBePut (maps.entries records) → Session old (commands_of (dump_text (maps.entries records))) replies new → All (λ r. is_refusal r ≡ false) replies → new.records ≡ records
dump_loaded old new records replies sound none can ran accepted =
    all_loaded old new (maps.entries records) replies (subst (λ (es : List (Read Command)). Session old es replies new) (dump_said (maps.entries records) can) ran) accepted sound
    ∙ ap (λ (m : Contents). inserted m (maps.entries records)) none
    ∙ inserted_all records
