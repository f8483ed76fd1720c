-- What a session keeps of its commits, where they are kept before they are answered.
use Rattle.std.proofs.Common.{◌≡◌, ◌⊎◌, ⊎_elim, inl, inr, ℕ, Bool, true, false, ◌||◌, List, [], ◌∷◌, ◌++◌, map, Option, Result, Ok, Err, IsTrue, refl, sym, ap, subst, ◌∙◌, append_assoc}
use Rattle.std.proofs.lemmas.Bool.{false≢true}
use Rattle.std.proofs.lemmas.List.{append-nil}
use Rattle.std.proofs.lemmas.List.Concat.{flat_map-append}
use Rattle.std.specs.List.{list_any}
use Rattle.rec_types.specs.declared.transaction.TxId.{TxId}
use Rattle.tx_log.specs.Written.{own, writes}
use Rattle.command_text.specs.declared.command.Command.{Command}
use Rattle.command_text.specs.declared.command.Command.TheVariants as command
use Rattle.command_text.specs.declared.reply.Reply.{Reply}
use Rattle.command_text.specs.declared.reply.Reply.TheVariants as reply
use Rattle.command_text.specs.declared.reply.Unkept.TheVariants as unkept
use Rattle.command_text.specs.Grammar.{Read}
use Rattle.command_text.specs.Units.{Write, unit_lines}
use Rattle.record_file.specs.Durable.{CommitsKept, Keeps, overlay}
use Rattle.record_file.specs.Runs as calls
use Rattle.record_file.specs.Runs.{Called, Commit, Event, Seen, Run, is_commit, undoubted}
use Rattle.record_file.proofs.CommitLemmas.{writes-replay}
use Rattle.file_session.specs.Overlaid.{SayWrites, writes_in_turn}
use Rattle.recfile.specs.Run.{AddsIf, HasReply, TellsDoubt, is_accepted}
use Rattle.file_session.specs.LogKeeping.{AddsWrites, SaysWrites}
use Rattle.recfile.specs.SessionCommits.{IsInDoubt, MakesCommits}
use Rattle.recfile.specs.WholeSession.{RanAs}
use Rattle.recfile.specs.declared.manner.Manner.{Manner}
use Rattle.recfile.specs.declared.script.RunFault.{RunFault}
use Rattle.recfile.proofs.SoundRunLemmas.{over_ran}

say_append : (units more : List (List (List ℕ))) (kept later : List (List Write)) → SayWrites units kept → SayWrites more later → SayWrites (units ++ more) (kept ++ later)
say_append [] more [] later say says = says
say_append [] more (es ∷ kept) later say says = absurd say
say_append (unit ∷ units) more [] later say says = absurd say
say_append (unit ∷ units) more (es ∷ kept) later say says = (say.0, say.1, say_append units more kept later say.2 says)

kept_append : (old mid new : Seen) (es fs : List Event) (kept later : List Write) → CommitsKept old es mid kept → CommitsKept mid fs new later → CommitsKept old (es ++ fs) new (kept ++ later)
kept_append old mid new [] fs kept later first second =
    subst (λ (ws : List Write). CommitsKept old fs new (ws ++ later)) (sym first.1) (subst (λ (s : Seen). CommitsKept s fs new later) first.0 second)
kept_append old mid new (e ∷ es) fs kept later first second = (
  first.0,
  first.1,
  first.2,
  first.3 ++ later,
  ap (λ (ws : List Write). ws ++ later) first.4 ∙ append_assoc first.2 first.3 later,
  first.5,
  kept_append first.0 mid new es fs first.3 later first.6 second,
)

pub made_none : (s : Seen) → MakesCommits s s
made_none s = record { kept = []; units = []; commits = sym (append-nil s.commits); says = tt; events = []; ran = (refl, refl); sound = refl; logged = refl; doubted = inl refl }

-- a run whose commits are kept is a run
kept_run : (old new : Seen) (es : List Event) (kept : List Write) → CommitsKept old es new kept → Run old es new
kept_run old new [] kept ran = ran.0
kept_run old new (e ∷ es) kept ran = (ran.0, ran.1, kept_run ran.0 new es ran.3 ran.6)

run_append : (old mid new : Seen) (es fs : List Event) → Run old es mid → Run mid fs new → Run old (es ++ fs) new
run_append old mid new [] fs first second = subst (λ (s : Seen). Run s fs new) first second
run_append old mid new (e ∷ es) fs first second = (first.0, first.1, run_append first.0 mid new es fs first.2 second)

-- what came into doubt in the second of two runs, or in the first
doubted_on : (a b c : Seen) → MakesCommits a b → MakesCommits b c → (c.doubt ≡ a.doubt) ⊎ ((es : List Write) × IsInDoubt a c es)
doubted_on a b c first second = at first.doubted second.doubted
  where
    at : (b.doubt ≡ a.doubt) ⊎ ((es : List Write) × IsInDoubt a b es) → (c.doubt ≡ b.doubt) ⊎ ((es : List Write) × IsInDoubt b c es) → (c.doubt ≡ a.doubt) ⊎ ((es : List Write) × IsInDoubt a c es)
    at (inl was) (inl stays) = inl (stays ∙ was)
    at (inr some) (inl stays) = inr (
      some.0,
      record {
        mid = some.1.mid;
        before = some.1.before;
        led = some.1.led;
        tx = some.1.tx;
        accepted = some.1.accepted;
        written = some.1.written;
        later = some.1.later ++ second.events;
        leads = run_append (undoubted some.1.mid) (undoubted b) (undoubted c) some.1.later second.events some.1.leads (kept_run (undoubted b) (undoubted c) second.events (writes_in_turn second.kept) second.ran);
        says = subst (λ (d : List ℕ). SaysWrites some.0 d) (sym stays) some.1.says;
      },
    )
    at was (inr some) = inr (
      some.0,
      record {
        mid = some.1.mid;
        before = first.events ++ some.1.before;
        led = run_append (undoubted a) (undoubted b) (undoubted some.1.mid) first.events some.1.before (kept_run (undoubted a) (undoubted b) first.events (writes_in_turn first.kept) first.ran) some.1.led;
        tx = some.1.tx;
        accepted = some.1.accepted;
        written = some.1.written;
        later = some.1.later;
        leads = some.1.leads;
        says = some.1.says;
      },
    )

pub made_on : (a b c : Seen) → MakesCommits a b → MakesCommits b c → MakesCommits a c
made_on a b c first second = record {
  kept = first.kept ++ second.kept;
  units = first.units ++ second.units;
  commits = second.commits ∙ ap (λ (us : List (List (List ℕ))). us ++ second.units) first.commits ∙ append_assoc a.commits first.units second.units;
  says = say_append first.units second.units first.kept second.kept first.says second.says;
  events = first.events ++ second.events;
  ran = subst (λ (ws : List Write). CommitsKept (undoubted a) (first.events ++ second.events) (undoubted c) ws) (sym (flat_map-append (λ es. es) first.kept second.kept)) (kept_append (undoubted a) (undoubted b) (undoubted c) first.events second.events (writes_in_turn first.kept) (writes_in_turn second.kept) first.ran second.ran);
  sound = second.sound ∙ first.sound;
  logged = second.logged ∙ first.logged;
  doubted = doubted_on a b c first second;
}

-- events of which none is an accepted commit
first_not : (b c : Bool) → (b || c) ≡ false → b ≡ false
first_not false c is = refl
first_not true c is = absurd (false≢true (sym is))

later_not : (b c : Bool) → (b || c) ≡ false → c ≡ false
later_not false c is = is
later_not true c is = absurd (false≢true (sym is))

keeps_none : (old : Seen) (called : Called) → is_commit called ≡ false → Keeps old.file called []
keeps_none old (Commit t (Ok done)) is = absurd (false≢true (sym is))
keeps_none old (Commit t (Err fault)) is = refl
keeps_none old (calls.Begin a0) is = refl
keeps_none old (calls.Put a0 a1 a2 a3) is = refl
keeps_none old (calls.Claim a0 a1 a2) is = refl
keeps_none old (calls.Remove a0 a1 a2) is = refl
keeps_none old (calls.Get a0 a1 a2) is = refl
keeps_none old (calls.Savepoint a0 a1) is = refl
keeps_none old (calls.Release a0 a1 a2) is = refl
keeps_none old (calls.RollbackTo a0 a1 a2) is = refl
keeps_none old (calls.Abort a0 a1) is = refl
keeps_none old (calls.Resume a0 a1) is = refl
keeps_none old (calls.Entries a0) is = refl
keeps_none old (calls.Beside a0 a1 a2) is = refl
keeps_none old (calls.EntriesBeside a0 a1 a2) is = refl
keeps_none old (calls.CommittedAt a0 a1) is = refl
keeps_none old (calls.KeysOf a0 a1) is = refl
keeps_none old (calls.StatusOf a0 a1) is = refl
keeps_none old (calls.Charged a0) is = refl
keeps_none old (calls.Begun a0) is = refl
keeps_none old (calls.LogLen a0) is = refl
keeps_none old (calls.LogUse a0) is = refl
keeps_none old (calls.RecordAt a0 a1) is = refl
keeps_none old (calls.IntoTable a0) is = refl

quiet_made : (old new : Seen) (events : List Event) → Run old events new → list_any (λ e. is_commit e.called) events ≡ false → CommitsKept old events new [] × (new.commits ≡ old.commits) × (new.sound ≡ old.sound) × (new.logged ≡ old.logged)
quiet_made old new [] ran none = ((ran, refl), ap (λ (s : Seen). s.commits) ran, ap (λ (s : Seen). s.sound) ran, ap (λ (s : Seen). s.logged) ran)
quiet_made old new (e ∷ es) ran none =
    let not = first_not (is_commit e.called) (list_any (λ f. is_commit f.called) es) none in
    let later = quiet_made ran.0 new es ran.2 (later_not (is_commit e.called) (list_any (λ f. is_commit f.called) es) none) in (
      (ran.0, ran.1, [], [], refl, keeps_none old e.called not, later.0),
      later.1 ∙ ran.1.happens.commits not,
      later.2 ∙ ran.1.happens.sound,
      later.3 ∙ ran.1.happens.logged,
    )

-- a command that is a commit, whose reply says that it was accepted
abbrev IsAccepted : Read Command → Reply → Type 0
IsAccepted entry answer = (t : TxId) × (entry ≡ Ok (command.Commit t)) × (answer ≡ reply.Commit (Ok tt))

accepted_by : (t : TxId) (answer : Reply) → is_accepted (Ok (command.Commit t)) answer ≡ true → answer ≡ reply.Commit (Ok tt)
accepted_by t (reply.Commit (Ok done)) is = refl
accepted_by t (reply.Commit (Err fault)) is = absurd (false≢true is)
accepted_by t (reply.Begin a0) is = absurd (false≢true is)
accepted_by t (reply.Put a0) is = absurd (false≢true is)
accepted_by t (reply.Claim a0) is = absurd (false≢true is)
accepted_by t (reply.Del a0) is = absurd (false≢true is)
accepted_by t (reply.Get a0) is = absurd (false≢true is)
accepted_by t (reply.Save a0) is = absurd (false≢true is)
accepted_by t (reply.Release a0) is = absurd (false≢true is)
accepted_by t (reply.Back a0) is = absurd (false≢true is)
accepted_by t (reply.Resume a0) is = absurd (false≢true is)
accepted_by t (reply.Abort a0) is = absurd (false≢true is)
accepted_by t (reply.List a0) is = absurd (false≢true is)
accepted_by t (reply.Committed a0) is = absurd (false≢true is)
accepted_by t (reply.Keys a0) is = absurd (false≢true is)
accepted_by t (reply.Log a0 a1) is = absurd (false≢true is)
accepted_by t (reply.Unkept a0) is = absurd (false≢true is)
accepted_by t (reply.Bad a0) is = absurd (false≢true is)

accepted : (entry : Read Command) (answer : Reply) → is_accepted entry answer ≡ true → IsAccepted entry answer
accepted (Ok (command.Commit t)) answer is = (t, refl, accepted_by t answer is)
accepted (Ok command.Begin) answer is = absurd (false≢true is)
accepted (Ok (command.Put a0 a1 a2)) answer is = absurd (false≢true is)
accepted (Ok (command.Claim a0 a1)) answer is = absurd (false≢true is)
accepted (Ok (command.Del a0 a1)) answer is = absurd (false≢true is)
accepted (Ok (command.Get a0 a1)) answer is = absurd (false≢true is)
accepted (Ok (command.Save a0)) answer is = absurd (false≢true is)
accepted (Ok (command.Release a0 a1)) answer is = absurd (false≢true is)
accepted (Ok (command.Back a0 a1)) answer is = absurd (false≢true is)
accepted (Ok (command.Resume a0)) answer is = absurd (false≢true is)
accepted (Ok (command.Abort a0)) answer is = absurd (false≢true is)
accepted (Ok command.List) answer is = absurd (false≢true is)
accepted (Ok (command.Keys a0)) answer is = absurd (false≢true is)
accepted (Ok (command.From a0 a1)) answer is = absurd (false≢true is)
accepted (Ok (command.Upto a0 a1)) answer is = absurd (false≢true is)
accepted (Ok (command.Committed a0)) answer is = absurd (false≢true is)
accepted (Ok command.Log) answer is = absurd (false≢true is)
accepted (Err fault) answer is = absurd (false≢true is)

-- what one commit keeps
commit_made : (old new : Seen) (t : TxId) (ws : List Write) (e : Event) → e.called ≡ Commit t (Ok tt) → Run (undoubted old) (e ∷ []) (undoubted new) → new.doubt ≡ old.doubt → ws ≡ writes (own t.0 old.file.history) → AddsWrites old.commits ws new.commits → MakesCommits old new
commit_made old new t [] e called ran undoubts is adds = record {
  kept = [];
  units = [];
  commits = adds ∙ sym (append-nil old.commits);
  says = tt;
  events = e ∷ [];
  ran = (ran.0, ran.1, [], [], refl, subst (λ (c : Called). Keeps old.file c []) (sym called) (λ m. ap (overlay m) is ∙ writes-replay m (own t.0 old.file.history)), (ran.2, refl));
  sound = ap (λ (s : Seen). s.sound) ran.2 ∙ ran.1.happens.sound;
  logged = ap (λ (s : Seen). s.logged) ran.2 ∙ ran.1.happens.logged;
  doubted = inl undoubts;
}
commit_made old new t (w ∷ ws) e called ran undoubts is adds = record {
  kept = (w ∷ ws) ∷ [];
  units = unit_lines adds.0 (w ∷ ws) ∷ [];
  commits = adds.1;
  says = (adds.0, adds.2, tt);
  events = e ∷ [];
  ran = (ran.0, ran.1, w ∷ ws, [], refl, subst (λ (c : Called). Keeps old.file c (w ∷ ws)) (sym called) (λ m. ap (overlay m) is ∙ writes-replay m (own t.0 old.file.history)), (ran.2, refl));
  sound = ap (λ (s : Seen). s.sound) ran.2 ∙ ran.1.happens.sound;
  logged = ap (λ (s : Seen). s.logged) ran.2 ∙ ran.1.happens.logged;
  doubted = inl undoubts;
}

-- the one event of an accepted commit
one_event : (events : List Event) (called : Called) → map (λ (e : Event). e.called) events ≡ called ∷ [] → (e : Event) × (events ≡ e ∷ []) × (e.called ≡ called)
one_event [] called is = absurd (cc is)
one_event (e ∷ []) called is = (e, refl, cc is)
one_event (e ∷ f ∷ events) called is = absurd (cc is)

adds_where : (logged : Bool) (old : List (List (List ℕ))) (ws : List Write) (new : List (List (List ℕ))) → IsTrue logged → AddsIf logged old ws new → AddsWrites old ws new
adds_where logged old ws new is adds = subst (λ b. AddsIf b old ws new) is adds

accepted_made : (old new : Seen) (t : TxId) → HasReply old (Ok (command.Commit t)) (reply.Commit (Ok tt)) new → IsTrue old.sound → IsTrue old.logged → MakesCommits old new
accepted_made old new t has sound logged =
    let one = one_event has.events (Commit t (Ok tt)) has.told in
    commit_made old new t (writes (own t.0 old.file.history)) one.0 one.2 (subst (λ (es : List Event). Run (undoubted old) es (undoubted new)) one.1 has.ran) has.doubt refl (adds_where old.logged old.commits (writes (own t.0 old.file.history)) new.commits logged (has.kept sound))

-- what the reply to a command leaves in doubt
reply_doubts : (old new : Seen) (events : List Event) → Run (undoubted old) events (undoubted new) → (entry : Read Command) (answer : Reply) → TellsDoubt old entry answer new → (new.doubt ≡ old.doubt) ⊎ ((es : List Write) × IsInDoubt old new es)
reply_doubts old new events ran (Ok (command.Commit t)) (reply.Unkept unkept.Doubt) told = ⊎_elim
    (λ stays. inl stays)
    (λ some. inr (writes (own t.0 old.file.history), record { mid = old; before = []; led = refl; tx = t.0; accepted = some.0; written = refl; later = events; leads = ran; says = some.1 }))
    told
reply_doubts old new events ran (Ok (command.Commit t)) (reply.Commit a0) told = inl told
reply_doubts old new events ran (Ok (command.Commit t)) (reply.Begin a0) told = inl told
reply_doubts old new events ran (Ok (command.Commit t)) (reply.Put a0) told = inl told
reply_doubts old new events ran (Ok (command.Commit t)) (reply.Claim a0) told = inl told
reply_doubts old new events ran (Ok (command.Commit t)) (reply.Del a0) told = inl told
reply_doubts old new events ran (Ok (command.Commit t)) (reply.Get a0) told = inl told
reply_doubts old new events ran (Ok (command.Commit t)) (reply.Save a0) told = inl told
reply_doubts old new events ran (Ok (command.Commit t)) (reply.Release a0) told = inl told
reply_doubts old new events ran (Ok (command.Commit t)) (reply.Back a0) told = inl told
reply_doubts old new events ran (Ok (command.Commit t)) (reply.Resume a0) told = inl told
reply_doubts old new events ran (Ok (command.Commit t)) (reply.Abort a0) told = inl told
reply_doubts old new events ran (Ok (command.Commit t)) (reply.List a0) told = inl told
reply_doubts old new events ran (Ok (command.Commit t)) (reply.Committed a0) told = inl told
reply_doubts old new events ran (Ok (command.Commit t)) (reply.Keys a0) told = inl told
reply_doubts old new events ran (Ok (command.Commit t)) (reply.Log a0 a1) told = inl told
reply_doubts old new events ran (Ok (command.Commit t)) (reply.Unkept unkept.Memory) told = inl told
reply_doubts old new events ran (Ok (command.Commit t)) (reply.Unkept unkept.Device) told = inl told
reply_doubts old new events ran (Ok (command.Commit t)) (reply.Bad a0) told = inl told
reply_doubts old new events ran (Ok command.Begin) answer told = inl told
reply_doubts old new events ran (Ok (command.Put a0 a1 a2)) answer told = inl told
reply_doubts old new events ran (Ok (command.Claim a0 a1)) answer told = inl told
reply_doubts old new events ran (Ok (command.Del a0 a1)) answer told = inl told
reply_doubts old new events ran (Ok (command.Get a0 a1)) answer told = inl told
reply_doubts old new events ran (Ok (command.Save a0)) answer told = inl told
reply_doubts old new events ran (Ok (command.Release a0 a1)) answer told = inl told
reply_doubts old new events ran (Ok (command.Back a0 a1)) answer told = inl told
reply_doubts old new events ran (Ok (command.Resume a0)) answer told = inl told
reply_doubts old new events ran (Ok (command.Abort a0)) answer told = inl told
reply_doubts old new events ran (Ok command.List) answer told = inl told
reply_doubts old new events ran (Ok (command.Keys a0)) answer told = inl told
reply_doubts old new events ran (Ok (command.From a0 a1)) answer told = inl told
reply_doubts old new events ran (Ok (command.Upto a0 a1)) answer told = inl told
reply_doubts old new events ran (Ok (command.Committed a0)) answer told = inl told
reply_doubts old new events ran (Ok command.Log) answer told = inl told
reply_doubts old new events ran (Err fault) answer told = inl told

-- what the reply to a command keeps
pub reply_made : (old new : Seen) (entry : Read Command) (answer : Reply) → HasReply old entry answer new → IsTrue old.sound → IsTrue old.logged → MakesCommits old new
reply_made old new entry answer has sound logged = at (is_accepted entry answer) refl
  where
    at : (b : Bool) → is_accepted entry answer ≡ b → MakesCommits old new
    at true is =
        let known = accepted entry answer is in
        accepted_made old new known.0 (subst (λ (r : Reply). HasReply old (Ok (command.Commit known.0)) r new) known.2 (subst (λ (c : Read Command). HasReply old c answer new) known.1 has)) sound logged
    at false is =
        let quiet = quiet_made (undoubted old) (undoubted new) has.events has.ran (has.alone is) in
        record {
          kept = [];
          units = [];
          commits = quiet.1 ∙ sym (append-nil old.commits);
          says = tt;
          events = has.events;
          ran = quiet.0;
          sound = quiet.2;
          logged = quiet.3;
          doubted = reply_doubts old new has.events has.ran entry answer has.doubt;
        }

-- and so a session, whatever its manner
pub session_made : (manner : Manner) (answer : Result ℕ RunFault) (left leaves held holds : Option (List ℕ)) (old new : Seen) → RanAs manner left leaves held holds old new answer → IsTrue old.sound → IsTrue old.logged → MakesCommits old new
session_made manner answer left leaves held holds old new ran =
    over_ran (λ a b. IsTrue a.sound → IsTrue a.logged → MakesCommits a b)
    (λ s sound logged. made_none s)
    (λ a b c first second sound logged.
    let made = first sound logged in
    made_on a b c made (second (made.sound ∙ sound) (made.logged ∙ logged)))
    (λ a b entry reply has sound logged. reply_made a b entry reply has sound logged)
    manner answer left leaves held holds old new ran
