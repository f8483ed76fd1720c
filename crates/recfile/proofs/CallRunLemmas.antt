-- The run of one call, from what its contract says.
use Rattle.std.proofs.Common.{◌≡◌, Bool, false, ◌||◌, [], ◌∷◌, ℕ, List, Option, Result, if◌then◌else◌, refl, ap}
use Rattle.rec_types.specs.declared.table_state.TableState.{Ghosts}
use Rattle.record_file.specs.Asked.{UndoAsks}
use Rattle.record_file.specs.declared.fault.Cause.{Cause}
use Rattle.recfile.specs.Ending as ending
use Rattle.command_text.specs.declared.command.Command.{Command}
use Rattle.command_text.specs.declared.reply.Reply.{Reply}
use Rattle.command_text.specs.Grammar.{Read}
use Rattle.recfile.specs.Run.{CommandRan, CommandTold, SameOrigin, ScriptTellsOf, TellsDoubt, TellsKept, ToldReply}
use Rattle.record_file.specs.Abstract.{OpenFile}
use Rattle.record_file.specs.Runs.{Called, Made, Run, IsKeptSeen, event_of, is_commit, seen, seen_as, undoubted}
use Rattle.record_file.specs.Seen.{doubt_of}
use Rattle.record_file.proofs.CallStepLemmas.{step_of}

-- the commit in doubt stays where what the table was made of does
pub same_doubt : {T : Type 0} (logged : Bool) (t : Ghosts T) (old new : T) → t.sound new ≡ t.sound old → t.origin new ≡ t.origin old → doubt_of logged t new ≡ doubt_of logged t old
same_doubt logged t old new sound origin i = if logged then (if sound i then t.doubt (origin i) else []) else []

-- the theorem of a call is the run of its event
pub one_ran : {T : Type 0} (t : Ghosts T) (logged : Bool) (old new : OpenFile T) (called : Called) (made : Made t old called new) → IsKeptSeen (seen_as logged t old) → IsKeptSeen (seen_as logged t new) → Run (undoubted (seen_as logged t old)) (event_of called made.refused ∷ []) (undoubted (seen_as logged t new))
one_ran t logged old new called made was is = (undoubted (seen_as logged t new), step_of t logged old new called made was is, refl)

-- so a command that makes one call has its reply
pub told_by : {T E : Type 0} (t : Ghosts T) (old new : OpenFile T) (called : Called) (made : Made t old called new) (entry : Read Command) (reply : Reply) (answer : Result Bool E) (text : List ℕ)
    → ((logged : Bool) → ScriptTellsOf (seen_as logged t old) entry reply (called ∷ [])) → ((logged : Bool) → TellsKept (seen_as logged t old) entry reply (seen_as logged t new)) → ((logged : Bool) → doubt_of logged t new.table ≡ doubt_of logged t old.table → TellsDoubt (seen_as logged t old) entry reply (seen_as logged t new)) → is_commit called ≡ false
    → ToldReply reply answer text → CommandTold t (SameOrigin t) old entry answer text new
told_by t old new called made entry reply answer text says kept doubt no_commit told = record {
  told = λ logged was is. (
    reply,
    record {
      events = event_of called made.refused ∷ [];
      told = says logged;
      kept = kept logged;
      doubt = doubt logged (same_doubt logged t old.table new.table made.happens.sound made.origin);
      alone = λ _. ap (λ b. b || false) no_commit;
      ran = one_ran t logged old new called made was is;
    },
    told,
  );
  moves_so = made.origin;
}

-- what an ending asks of its table doesn't depend on whether commits are kept
module _ {T : Type 0} (t : Ghosts T) (logged : Bool) (old new : OpenFile T) (cause : Option Cause) where
  undo_seen : UndoAsks (seen t old) cause (seen t new) → UndoAsks (seen_as logged t old) cause (seen_as logged t new)
  undo_seen told = record { more = told.more; no_room = told.no_room; grown = told.grown; sets = told.sets; gets = told.gets; lists = told.lists; no_rooms = told.no_rooms; lost = told.lost }

  pub ending_as : ending.EndingAsks (seen t old) cause (seen t new) → ending.EndingAsks (seen_as logged t old) cause (seen_as logged t new)
  ending_as told = record { failures = told.failures; refusals = told.refusals; damages = told.damages; sound = told.sound; told = told.told; opening = told.opening; caused = told.caused; asked = undo_seen told.asked }

-- of a command that leaves what its table was made of
pub ran_of : {T E : Type 0} (t : Ghosts T) (logged : Bool) (moves : T → T → Type 0) → ((a b : T) → t.origin b ≡ t.origin a → moves a b) → (old new : OpenFile T) (entry : Read Command) (made : Result Bool E) (text : List ℕ) → CommandTold t (SameOrigin t) old entry made text new → CommandRan t logged moves old entry made text new
ran_of t logged moves none old new entry made text told = record { told = told.told logged; moves_so = none old.table new.table told.moves_so }
