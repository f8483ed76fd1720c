-- The run of a script over a file: each line that says something has one reply.
use Rattle.std.specs.Prelude.{◌≡◌, ℕ, ◌+◌, ◌<◌, Bool, true, false, List, [], ◌∷◌, ◌++◌, length, filter, map, take, Option, Some, None, Result, Ok, Err, ◌⊎◌, IsTrue, IfOk}
use Rattle.std.specs.List.{All, flat_map, list_any}
use Rattle.std.specs.Io.KnownBytes.{Appends}
use Rattle.rec_types.specs.declared.table_state.TableState.{Ghosts}
use Rattle.record_file.specs.Abstract.{OpenFile}
use Rattle.record_file.specs.Steps.{tx_refusal}
use Rattle.tx_log.specs.Written.{own, writes}
use Rattle.record_file.specs.Runs.{Called, Event, Seen, IsKeptSeen, is_commit, seen_as, undoubted, Run, Begin, Put, Claim, Remove, Get, Savepoint, Release, RollbackTo, Abort, Resume, Commit, Entries, EntriesBeside, CommittedAt, KeysOf, LogLen, LogUse}
use Rattle.rec_types.specs.declared.gap.Gap.{Gap}
use Rattle.rec_types.specs.declared.gap.Gap.TheVariants as gaps
use Rattle.rec_types.specs.declared.side.Side.{Side}
use Rattle.rec_types.specs.declared.side.Side.TheVariants.{After, Before}
use Rattle.rec_types.specs.declared.transaction.Entry.{Entry}
use Rattle.record_file.specs.AtMost.{limited_to}
use Rattle.record_file.specs.declared.fault.EntriesFault.{EntriesFault}
use Rattle.command_text.specs.declared.command.Command.{Command}
use Rattle.command_text.specs.declared.command.Command.TheVariants as command
use Rattle.command_text.specs.declared.reply.Reply.{Reply}
use Rattle.command_text.specs.declared.reply.Reply.TheVariants as reply
use Rattle.command_text.specs.declared.reply.Unkept.TheVariants as unkept
use Rattle.record_file.specs.declared.keeper.KeepFault.{KeepFault}
use Rattle.record_file.specs.declared.keeper.KeepFault.TheVariants as keep_faults
use Rattle.record_file.specs.declared.keeper.KeeperFault.{KeeperFault}
use Rattle.record_file.specs.declared.keeper.KeeperFault.TheVariants as keeper_faults
use Rattle.command_text.specs.Grammar.{Read, line_of}
use Rattle.command_text.specs.Refusals.{is_refusal}
use Rattle.command_text.specs.Script.{lines_of, entries_in, commands_of}
use Rattle.command_text.specs.Texts.{text_of}
use Rattle.file_session.specs.LogKeeping.{AddsWrites, DoubtsWrites, SaysWrites, TellsWritesOf}
use Rattle.recfile.specs.declared.script.ScriptFault.{ScriptFault}
use Rattle.recfile.specs.declared.script.ScriptFault.TheVariants as faults
use Rattle.recfile.specs.declared.script.RunFault.{RunFault}
use Rattle.recfile.specs.declared.script.RunFault.TheVariants.{Script, Refused, Flush}
use Rattle.recfile.specs.Whole.{IsWhole, IsTooLong, TakesAtMost, longest_script}

-- so many of the entries on a side of a gap, the nearest first, of all that a call answered
abbrev pub TellsFirst : Side → Gap → ℕ → Result (List Entry) EntriesFault → List Called → Type 0
TellsFirst side gap n answer calls = (all : Result (List Entry) EntriesFault) × (calls ≡ EntriesBeside side gap all ∷ []) × (answer ≡ limited_to n all)

-- The calls that the reply to a command tells of. A line that can't be read makes no call, nor does a commit that would be
-- accepted and isn't kept, where commits are kept before they are answered; and no other reply is given.
abbrev pub ScriptTellsOf : Seen → Read Command → Reply → List Called → Type 0
ScriptTellsOf old (Err fault) (reply.Bad told) calls = (told ≡ fault) × (calls ≡ [])
ScriptTellsOf old (Ok command.Begin) (reply.Begin answer) calls = calls ≡ Begin answer ∷ []
ScriptTellsOf old (Ok (command.Put t x r)) (reply.Put answer) calls = calls ≡ Put t x r answer ∷ []
ScriptTellsOf old (Ok (command.Claim t x)) (reply.Claim answer) calls = calls ≡ Claim t x answer ∷ []
ScriptTellsOf old (Ok (command.Del t x)) (reply.Del answer) calls = calls ≡ Remove t x answer ∷ []
ScriptTellsOf old (Ok (command.Get t x)) (reply.Get answer) calls = calls ≡ Get t x answer ∷ []
ScriptTellsOf old (Ok (command.Save t)) (reply.Save answer) calls = calls ≡ Savepoint t answer ∷ []
ScriptTellsOf old (Ok (command.Release t n)) (reply.Release answer) calls = calls ≡ Release t n answer ∷ []
ScriptTellsOf old (Ok (command.Back t n)) (reply.Back answer) calls = calls ≡ RollbackTo t n answer ∷ []
ScriptTellsOf old (Ok (command.Resume t)) (reply.Resume answer) calls = calls ≡ Resume t answer ∷ []
ScriptTellsOf old (Ok (command.Abort t)) (reply.Abort answer) calls = calls ≡ Abort t answer ∷ []
ScriptTellsOf old (Ok (command.Commit t)) (reply.Commit answer) calls = calls ≡ Commit t answer ∷ []
ScriptTellsOf old (Ok command.List) (reply.List answer) calls = calls ≡ Entries answer ∷ []
ScriptTellsOf old (Ok (command.From k n)) (reply.List answer) calls = TellsFirst After (gaps.Before k) n answer calls
ScriptTellsOf old (Ok (command.Upto k n)) (reply.List answer) calls = TellsFirst Before (gaps.Behind k) n answer calls
ScriptTellsOf old (Ok (command.Committed k)) (reply.Committed answer) calls = calls ≡ CommittedAt k answer ∷ []
ScriptTellsOf old (Ok (command.Keys t)) (reply.Keys answer) calls = calls ≡ KeysOf t answer ∷ []
ScriptTellsOf old (Ok command.Log) (reply.Log len used) calls = calls ≡ LogLen len ∷ LogUse used ∷ []
ScriptTellsOf old (Ok (command.Commit t)) (reply.Unkept fault) calls = IsTrue old.logged × (calls ≡ []) × (tx_refusal old.file t.0 None ≡ None)
ScriptTellsOf old entry answer calls = ⊥

-- where commits are kept before they are answered; and else nothing is
abbrev pub AddsIf : Bool → List (List (List ℕ)) → List (List ℕ × Option (List ℕ)) → List (List (List ℕ)) → Type 0
AddsIf true old es new = AddsWrites old es new
AddsIf false old es new = new ≡ old

-- an accepted commit is kept with its writes

abbrev pub TellsKept : Seen → Read Command → Reply → Seen → Type 0
TellsKept old (Ok (command.Commit t)) (reply.Commit (Ok done)) new =
    IsTrue old.sound → AddsIf old.logged old.commits (writes (own t.0 old.file.history)) new.commits
TellsKept old entry answer new = Unit {0}

-- A commit that would be accepted, and whose keeping is answered as in doubt, is the one in doubt from then on, unless another
-- is already. No other reply changes which one that is.
abbrev pub TellsDoubt : Seen → Read Command → Reply → Seen → Type 0
TellsDoubt old (Ok (command.Commit t)) (reply.Unkept unkept.Doubt) new =
    (new.doubt ≡ old.doubt) ⊎ ((tx_refusal old.file t.0 None ≡ None) × SaysWrites (writes (own t.0 old.file.history)) new.doubt)
TellsDoubt old entry answer new = new.doubt ≡ old.doubt

-- whether a command is a commit and its reply says that it was accepted: no other reply tells of an accepted commit
abbrev pub is_accepted : Read Command → Reply → Bool
is_accepted (Ok (command.Commit t)) (reply.Commit (Ok done)) = true
is_accepted entry answer = false

-- From old, the command, or the line that can't be read, has this reply by a run of these calls, which leads to new.
pub record HasReply (old : Seen) (entry : Read Command) (answer : Reply) (new : Seen) : Type 0 where
  pub events : List Event
  pub told : ScriptTellsOf old entry answer (map (λ e. e.called) events)
  pub kept : TellsKept old entry answer new
  pub doubt : TellsDoubt old entry answer new
  pub alone : is_accepted entry answer ≡ false → list_any (λ e. is_commit e.called) events ≡ false
  pub ran : Run (undoubted old) events (undoubted new)

-- the same of what a line says; one that says nothing has no reply
abbrev pub LineHasReply : Seen → Read (Option Command) → Reply → Seen → Type 0
LineHasReply old (Ok None) answer new = ⊥
LineHasReply old (Ok (Some c)) answer new = HasReply old (Ok c) answer new
LineHasReply old (Err fault) answer new = HasReply old (Err fault) answer new

-- the text of a reply, where it could be made, and whether the reply is a refusal
abbrev pub ToldReply : {E : Type 0} → Reply → Result Bool E → List ℕ → Type 0
ToldReply answer made text = IfOk made (λ refused. (text ≡ text_of answer) × (refused ≡ is_refusal answer))

-- what a table was made of is the same
abbrev pub SameOrigin : {T : Type 0} → Ghosts T → T → T → Type 0
SameOrigin t old new = t.origin new ≡ t.origin old

-- the reply to a commit that was to be kept
abbrev pub commit_reply : Result (Unit {0}) KeepFault → Reply
commit_reply (Ok done) = reply.Commit (Ok done)
commit_reply (Err (keep_faults.Refused fault)) = reply.Commit (Err fault)
commit_reply (Err keep_faults.Memory) = reply.Unkept unkept.Memory
commit_reply (Err (keep_faults.Unkept keeper_faults.Memory)) = reply.Unkept unkept.Memory
commit_reply (Err (keep_faults.Unkept keeper_faults.Room)) = reply.Unkept unkept.Device
commit_reply (Err (keep_faults.Unkept keeper_faults.Doubt)) = reply.Unkept unkept.Doubt

-- beside a table
abbrev pub TellsWrites : {T : Type 0} → Ghosts T → T → List (List ℕ × Option (List ℕ)) → Result (Unit {0}) KeeperFault → T → Type 0
TellsWrites t old es answer new =
    TellsWritesOf (t.sound old) (t.commits (t.origin old)) es answer (t.commits (t.origin new))
    × DoubtsWrites (t.doubt (t.origin old)) es answer (t.doubt (t.origin new))

-- Over a file of which what stays true is true, a command has a reply, which is told. Of what the table was made of nothing
-- changes but what may.
pub record CommandTold {T E : Type 0} (t : Ghosts T) (moves : T → T → Type 0) (old : OpenFile T) (entry : Read Command) (made : Result Bool E) (text : List ℕ) (new : OpenFile T) : Type 0 where
  pub told : (logged : Bool) → IsKeptSeen (seen_as logged t old) → IsKeptSeen (seen_as logged t new) → (answer : Reply) × HasReply (seen_as logged t old) entry answer (seen_as logged t new) × ToldReply answer made text
  pub moves_so : moves old.table new.table

-- the same of any reply, where commits are kept before they are answered, or aren't
pub record CommandRan {T E : Type 0} (t : Ghosts T) (logged : Bool) (moves : T → T → Type 0) (old : OpenFile T) (entry : Read Command) (made : Result Bool E) (text : List ℕ) (new : OpenFile T) : Type 0 where
  pub told : IsKeptSeen (seen_as logged t old) → IsKeptSeen (seen_as logged t new) → (answer : Reply) × HasReply (seen_as logged t old) entry answer (seen_as logged t new) × ToldReply answer made text
  pub moves_so : moves old.table new.table

-- What a line says has a reply, which is told; a line that says nothing has none.
abbrev pub LineTold : {E : Type 0} → Seen → Read (Option Command) → Result (Option Bool) E → List ℕ → Seen → Type 0
LineTold old said (Ok None) text new = (said ≡ Ok None) × (new ≡ old)
LineTold old said (Ok (Some refused)) text new = (answer : Reply) × LineHasReply old said answer new × (text ≡ text_of answer) × (refused ≡ is_refusal answer)
LineTold old said (Err fault) text new = (answer : Reply) × LineHasReply old said answer new

-- the entries have these replies, one after another
abbrev pub Session : Seen → List (Read Command) → List Reply → Seen → Type 0
Session old [] [] new = new ≡ old
Session old (entry ∷ entries) (answer ∷ replies) new = (mid : Seen) × HasReply old entry answer mid × Session mid entries replies new
Session old [] (answer ∷ replies) new = ⊥
Session old (entry ∷ entries) [] new = ⊥

-- a line that can't be read is no command
abbrev pub is_command : Read Command → Bool
is_command (Ok c) = true
is_command (Err fault) = false

abbrev pub says_command : Read (Option Command) → Bool
says_command (Ok None) = false
says_command (Ok (Some c)) = true
says_command (Err fault) = false

abbrev pub commands : List (Read Command) → ℕ
commands entries = length (filter is_command entries)

-- the front of a script was run: its entries up to a rest have these replies, with this many commands
pub record Served (script rest : List ℕ) (old : Seen) (replies : List Reply) (new : Seen) (done : ℕ) : Type 0 where
  pub front : List (Read Command)
  pub split : commands_of script ≡ front ++ commands_of rest
  pub ran : Session old front replies new
  pub count : done ≡ commands front

-- what was written is the text of the whole run
abbrev pub Finished : Option (List ℕ) → Option (List ℕ) → Option (List ℕ) → Option (List ℕ) → Seen → Seen → ℕ → Type 0
Finished left leaves held holds old new done =
    (script : List ℕ) × (replies : List Reply) × IsWhole left leaves script × Session old (commands_of script) replies new
    × Appends held holds (flat_map text_of replies) × (done ≡ commands (commands_of script))

-- how many commands were run by a fault
abbrev pub done_of : ScriptFault → ℕ
done_of faults.ScriptTooLong = 0
done_of faults.ReadFault = 0
done_of (faults.WriteFault done) = done
done_of (faults.Memory done) = done

-- so many bytes of the last reply are written: a front of its text, and none where it could not be made
abbrev pub IsFront : ScriptFault → ℕ → List ℕ → Type 0
IsFront faults.ScriptTooLong sent text = ⊥
IsFront faults.ReadFault sent text = ⊥
IsFront (faults.WriteFault done) sent text = sent < length text
IsFront (faults.Memory done) sent text = sent ≡ 0

-- A reply could not be made or written, after so many commands.
pub record IsUnsent (held holds : Option (List ℕ)) (done : ℕ) (text : List ℕ) (fault : ScriptFault) : Type 0 where
  pub sent : ℕ
  pub front : IsFront fault sent text
  pub written : Appends held holds (take sent text)
  pub count : done_of fault ≡ done

-- What a line says has a reply, which is written: the answer is whether it is a refusal. A line that says nothing has none.
abbrev pub LineSent : Option (List ℕ) → Option (List ℕ) → Seen → Read (Option Command) → Seen → ℕ → Result (Option Bool) ScriptFault → Type 0
LineSent held holds old said new done (Ok None) = (said ≡ Ok None) × (new ≡ old) × (holds ≡ held)
LineSent held holds old said new done (Ok (Some refused)) =
    (answer : Reply) × LineHasReply old said answer new × Appends held holds (text_of answer) × (refused ≡ is_refusal answer)
LineSent held holds old said new done (Err fault) =
    (answer : Reply) × LineHasReply old said answer new × IsUnsent held holds done (text_of answer) fault

-- A run that stopped at a reply: the replies before it are written, and a front of it.
pub record ScriptStopsAt (held holds : Option (List ℕ)) (old new : Seen) (script : List ℕ) (fault : ScriptFault) : Type 0 where
  pub replies : List Reply
  pub last : Reply
  pub rest : List ℕ
  pub sent : ℕ
  pub served : Served script rest old (replies ++ last ∷ []) new (done_of fault)
  pub front : IsFront fault sent (text_of last)
  pub written : Appends held holds (flat_map text_of replies ++ take sent (text_of last))

-- a script that wasn't read whole, and how much of it was taken
abbrev pub ReadStops : Option (List ℕ) → Option (List ℕ) → ScriptFault → Type 0
ReadStops left leaves faults.ScriptTooLong = IsTooLong left leaves
ReadStops left leaves faults.ReadFault = TakesAtMost left leaves longest_script
ReadStops left leaves (faults.WriteFault done) = ⊥
ReadStops left leaves (faults.Memory done) = done ≡ 0

-- Either the script wasn't read, and nothing was run, or it was, and exactly the first `done` commands were run.
abbrev pub Faulted : Option (List ℕ) → Option (List ℕ) → Option (List ℕ) → Option (List ℕ) → Seen → Seen → ScriptFault → Type 0
Faulted left leaves held holds old new fault =
    (ReadStops left leaves fault × (new ≡ old) × (holds ≡ held)) ⊎ ((script : List ℕ) × IsWhole left leaves script × ScriptStopsAt held holds old new script fault)

-- where a refusal ends the script, none of these replies is one
abbrev pub AcceptedIf : Bool → List Reply → Type 0
AcceptedIf strict replies = IsTrue strict → All (λ r. is_refusal r ≡ false) replies

-- The lines before a line were run, without a refusal, and then that line, whose reply is one: it is written, with those
-- before it, and no line after it was run. Lines are counted from 1, with those that say nothing.
pub record RefusedAt (held holds : Option (List ℕ)) (old new : Seen) (script : List ℕ) (number : ℕ) : Type 0 where
  pub before : List (List ℕ)
  pub line : List ℕ
  pub after : List (List ℕ)
  pub split : lines_of script ≡ before ++ line ∷ after
  pub place : number ≡ length before + 1
  pub replies : List Reply
  pub mid : Seen
  pub ran : Session old (entries_in before) replies mid
  pub accepted : All (λ r. is_refusal r ≡ false) replies
  pub last : Reply
  pub reply : LineHasReply mid (line_of line) last new
  pub refused : is_refusal last ≡ true
  pub written : Appends held holds (flat_map text_of (replies ++ last ∷ []))

-- Why the lines of a script weren't run to their end: a reply couldn't be made or written, or a refusal ended the script.
abbrev pub LinesStop : Bool → Option (List ℕ) → Option (List ℕ) → Seen → Seen → List ℕ → RunFault → Type 0
LinesStop strict held holds old new script (Script fault) =
    (stop : ScriptStopsAt held holds old new script fault) × AcceptedIf strict stop.replies
LinesStop strict held holds old new script (Refused line) = IsTrue strict × RefusedAt held holds old new script line
LinesStop strict held holds old new script Flush = ⊥

-- the fault of a script that wasn't read
abbrev pub RunReadStops : Option (List ℕ) → Option (List ℕ) → RunFault → Type 0
RunReadStops left leaves (Script fault) = ReadStops left leaves fault
RunReadStops left leaves (Refused line) = ⊥
RunReadStops left leaves Flush = ⊥

-- What became of a script, where refusals end it, or don't: it was run to its end; it wasn't read, and nothing was run;
-- or its lines were run up to one.
abbrev pub Ran : Bool → Option (List ℕ) → Option (List ℕ) → Option (List ℕ) → Option (List ℕ) → Seen → Seen → Result ℕ RunFault → Type 0
Ran strict left leaves held holds old new (Ok done) =
    (run : Finished left leaves held holds old new done) × AcceptedIf strict run.1
Ran strict left leaves held holds old new (Err fault) =
    (RunReadStops left leaves fault × (new ≡ old) × (holds ≡ held)) ⊎ ((script : List ℕ) × IsWhole left leaves script × LinesStop strict held holds old new script fault)

-- no refusal ended the script, and no flush
abbrev pub NotRefused : Result ℕ RunFault → Type 0
NotRefused (Ok done) = Unit {0}
NotRefused (Err (Script fault)) = Unit {0}
NotRefused (Err (Refused line)) = ⊥
NotRefused (Err Flush) = ⊥

-- the answer of a script that no refusal ends, among those of a script that one may end
abbrev pub run_of : Result ℕ ScriptFault → Result ℕ RunFault
run_of (Ok done) = Ok done
run_of (Err fault) = Err (Script fault)
