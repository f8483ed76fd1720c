-- What each reply of a session keeps, the session keeps, whatever its manner.
use Rattle.std.proofs.Common.{◌≡◌, ℕ, Bool, List, [], ◌∷◌, Option, Some, None, Result, Ok, Err, inl, inr, refl, sym, ap, subst, ◌∙◌}
use Rattle.record_file.specs.Runs.{Event, Seen, Run, undoubted}
use Rattle.command_text.specs.declared.command.Command.{Command}
use Rattle.command_text.specs.declared.reply.Reply.{Reply}
use Rattle.command_text.specs.Grammar.{Read, line_of}
use Rattle.command_text.specs.Script.{bounded_entries_in, bounded_line_of, entries_in, commands_of}
use Rattle.recfile.specs.declared.script.RunFault.{RunFault}
use Rattle.recfile.specs.declared.script.RunFault.TheVariants.{Script, Refused, Flush}
use Rattle.recfile.specs.declared.script.ScriptFault.TheVariants as script_faults
use Rattle.recfile.specs.Run.{HasReply, LineHasReply, Session, Ran}
use Rattle.recfile.specs.Shell.{LinesAnswered, LineStops, RanLines, ReadsEnd}
use Rattle.recfile.specs.WholeSession.{RanBy, RanAs}
use Rattle.recfile.specs.declared.manner.Feed.{Feed}
use Rattle.recfile.specs.declared.manner.Feed.TheVariants as feeds
use Rattle.recfile.specs.declared.manner.Manner.{Manner}

-- a relation that goes on from one to the next, and that each reply keeps
module _ (P : Seen → Seen → Type 0) (none : (s : Seen) → P s s) (on : (a b c : Seen) → P a b → P b c → P a c) (reply : (a b : Seen) (entry : Read Command) (answer : Reply) → HasReply a entry answer b → P a b) where
  stays : (old new : Seen) → new ≡ old → P old new
  stays old new same = subst (λ (s : Seen). P old s) (sym same) (none old)

  over_session : (old new : Seen) (entries : List (Read Command)) (replies : List Reply) → Session old entries replies new → P old new
  over_session old new [] [] ran = stays old new ran
  over_session old new [] (answer ∷ replies) ran = absurd ran
  over_session old new (entry ∷ entries) [] ran = absurd ran
  over_session old new (entry ∷ entries) (answer ∷ replies) ran = on old ran.0 new (reply old ran.0 entry answer ran.1) (over_session ran.0 new entries replies ran.2)

  over_line : (old new : Seen) (line : Read (Option Command)) (answer : Reply) → LineHasReply old line answer new → P old new
  over_line old new (Ok None) answer step = absurd step
  over_line old new (Ok (Some c)) answer step = reply old new (Ok c) answer step
  over_line old new (Err fault) answer step = reply old new (Err fault) answer step

  -- so it is over a script
  over_script : (strict : Bool) (answer : Result ℕ RunFault) (left leaves held holds : Option (List ℕ)) (old new : Seen) → Ran strict left leaves held holds old new answer → P old new
  over_script strict (Ok done) left leaves held holds old new ran = over_session old new (commands_of ran.0.0) ran.0.1 ran.0.3
  over_script strict (Err fault) left leaves held holds old new (inl unread) = stays old new unread.1
  over_script strict (Err (Script fault)) left leaves held holds old new (inr stopped) = over_session old new stopped.2.0.served.front _ stopped.2.0.served.ran
  over_script strict (Err Flush) left leaves held holds old new (inr stopped) = absurd stopped.2
  over_script strict (Err (Refused line)) left leaves held holds old new (inr stopped) =
      let refused = stopped.2.1 in
      on old refused.mid new (over_session old refused.mid (entries_in refused.before) refused.replies refused.ran) (over_line refused.mid new (line_of refused.line) refused.last refused.reply)

  over_answered : (strict : Bool) (held holds : Option (List ℕ)) (old new : Seen) (lines : List (List ℕ)) → LinesAnswered strict held holds old lines new → P old new
  over_answered strict held holds old new lines answered = over_session old new (bounded_entries_in lines) answered.replies answered.ran

  over_stop : (strict : Bool) (held holds : Option (List ℕ)) (old new : Seen) (said : Read (Option Command)) (done number : ℕ) (fault : RunFault) → LineStops strict held holds old said new done number fault → P old new
  over_stop strict held holds old new said done number (Script fault) stops = over_line old new said stops.0 stops.1
  over_stop strict held holds old new said done number (Refused line) stops = over_line old new said stops.0 stops.1
  over_stop strict held holds old new said done number Flush stops = absurd stops

  over_end : (strict : Bool) (fault : RunFault) (left leaves held holds : Option (List ℕ)) (old new : Seen) → ReadsEnd strict left leaves held holds old new fault → P old new
  over_end strict (Script script_faults.ReadFault) left leaves held holds old new ends = over_answered strict held holds old new ends.0 ends.2
  over_end strict (Script script_faults.ScriptTooLong) left leaves held holds old new ends = over_answered strict held holds old new ends.0 ends.2
  over_end strict (Script (script_faults.Memory done)) left leaves held holds old new ends = stays old new ends.3
  over_end strict (Script (script_faults.WriteFault done)) left leaves held holds old new ends = absurd ends
  over_end strict (Refused line) left leaves held holds old new ends = absurd ends
  over_end strict Flush left leaves held holds old new ends = over_answered strict held holds old new ends.lines ends.answered

  over_lines : (strict : Bool) (answer : Result ℕ RunFault) (left leaves held holds : Option (List ℕ)) (old new : Seen) → RanLines strict left leaves held holds old new answer → P old new
  over_lines strict (Ok done) left leaves held holds old new ran = over_answered strict held holds old new ran.0 ran.2
  over_lines strict (Err fault) left leaves held holds old new (inl ends) = over_end strict fault left leaves held holds old new ends
  over_lines strict (Err fault) left leaves held holds old new (inr stopped) =
      let stop = stopped.3 in
      on old stop.mid new (over_answered strict held stop.between old stop.mid stop.before stop.answered) (over_stop strict stop.between holds stop.mid new (bounded_line_of stop.line) _ _ fault stop.stops)

  over_feed : (feed : Feed) (strict : Bool) (answer : Result ℕ RunFault) (left leaves held holds : Option (List ℕ)) (old new : Seen) → RanBy feed strict left leaves held holds old new answer → P old new
  over_feed feeds.Script strict answer left leaves held holds old new ran = over_script strict answer left leaves held holds old new ran
  over_feed feeds.Lines strict answer left leaves held holds old new ran = over_lines strict answer left leaves held holds old new ran

  -- and over the lines of a session, whatever its manner
  pub over_ran : (manner : Manner) (answer : Result ℕ RunFault) (left leaves held holds : Option (List ℕ)) (old new : Seen) → RanAs manner left leaves held holds old new answer → P old new
  over_ran manner answer left leaves held holds old new ran = over_feed manner.feed manner.strict answer left leaves held holds old new ran

-- a table stays sound
sound_run : (old new : Seen) (events : List Event) → Run old events new → new.sound ≡ old.sound
sound_run old new [] ran = ap (λ (s : Seen). s.sound) ran
sound_run old new (e ∷ es) ran = sound_run ran.0 new es ran.2 ∙ ran.1.happens.sound

pub sound_ran : (manner : Manner) (answer : Result ℕ RunFault) (left leaves held holds : Option (List ℕ)) (old new : Seen) → RanAs manner left leaves held holds old new answer → new.sound ≡ old.sound
sound_ran manner answer left leaves held holds old new ran =
    over_ran (λ a b. b.sound ≡ a.sound) (λ s. refl) (λ a b c first second. second ∙ first) (λ a b entry answer has. sound_run (undoubted a) (undoubted b) has.events has.ran) manner answer left leaves held holds old new ran
