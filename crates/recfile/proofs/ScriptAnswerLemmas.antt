-- What became of a script, where refusals end it, or don't.
use Rattle.std.proofs.Common.{◌≡◌, ℕ, Bool, true, false, List, Option, Result, Ok, Err, IfOk, IfErr, inl, inr, sym, subst}
use Rattle.std.specs.List.{flat_map}
use Rattle.std.specs.Io.KnownBytes.{Appends}
use Rattle.command_text.specs.declared.reply.Reply.{Reply}
use Rattle.command_text.specs.Script.{commands_of}
use Rattle.command_text.specs.Texts.{text_of}
use Rattle.record_file.specs.Runs.{Seen}
use Rattle.recfile.specs.declared.script.RunFault.{RunFault}
use Rattle.recfile.specs.declared.script.RunFault.TheVariants.{Script, Refused, Flush}
use Rattle.recfile.specs.declared.script.ScriptFault.{ScriptFault}
use Rattle.recfile.specs.Run.{Session, Finished, Faulted, AcceptedIf, LinesStop, NotRefused, Ran, run_of, commands}
use Rattle.recfile.specs.Whole.{IsWhole}

-- no refusal ends it
pub not_refused : (ran : Result ℕ RunFault) (left leaves held holds : Option (List ℕ)) (old new : Seen) → Ran false left leaves held holds old new ran → NotRefused ran
not_refused (Ok done) left leaves held holds old new is = tt
not_refused (Err (Script fault)) left leaves held holds old new is = tt
not_refused (Err (Refused line)) left leaves held holds old new (inl unread) = unread.0
not_refused (Err Flush) left leaves held holds old new (inl unread) = unread.0
not_refused (Err Flush) left leaves held holds old new (inr stopped) = stopped.2
not_refused (Err (Refused line)) left leaves held holds old new (inr stopped) = absurd (never stopped.2.0)
  where
    never : false ≡ true → ⊥
    never is = absurd (cc)

finished_as : (answer : Result ℕ ScriptFault) (left leaves held holds : Option (List ℕ)) (old new : Seen) → Ran false left leaves held holds old new (run_of answer) → IfOk answer (Finished left leaves held holds old new)
finished_as (Ok done) left leaves held holds old new ran = ran.0
finished_as (Err fault) left leaves held holds old new ran = tt

faulted_as : (answer : Result ℕ ScriptFault) (left leaves held holds : Option (List ℕ)) (old new : Seen) → Ran false left leaves held holds old new (run_of answer) → IfErr answer (Faulted left leaves held holds old new)
faulted_as (Ok done) left leaves held holds old new ran = tt
faulted_as (Err fault) left leaves held holds old new (inl unread) = inl unread
faulted_as (Err fault) left leaves held holds old new (inr stopped) = inr (stopped.0, stopped.1, stopped.2.0)

pub finished_by : (answer : Result ℕ ScriptFault) (ran : Result ℕ RunFault) (left leaves held holds : Option (List ℕ)) (old new : Seen) → ran ≡ run_of answer → Ran false left leaves held holds old new ran → IfOk answer (Finished left leaves held holds old new)
finished_by answer ran left leaves held holds old new is known = finished_as answer left leaves held holds old new (subst (Ran false left leaves held holds old new) is known)

pub faulted_by : (answer : Result ℕ ScriptFault) (ran : Result ℕ RunFault) (left leaves held holds : Option (List ℕ)) (old new : Seen) → ran ≡ run_of answer → Ran false left leaves held holds old new ran → IfErr answer (Faulted left leaves held holds old new)
faulted_by answer ran left leaves held holds old new is known = faulted_as answer left leaves held holds old new (subst (Ran false left leaves held holds old new) is known)

-- a script that was read, and its lines
pub ran_lines : (strict : Bool) (answer : Result ℕ RunFault) (left leaves held holds : Option (List ℕ)) (old new : Seen) (text script : List ℕ) → text ≡ script → IsWhole left leaves script
    → IfOk answer (λ done. (replies : List Reply) × Session old (commands_of text) replies new × Appends held holds (flat_map text_of replies) × (done ≡ commands (commands_of text)) × AcceptedIf strict replies)
    → IfErr answer (LinesStop strict held holds old new text) → Ran strict left leaves held holds old new answer
ran_lines strict (Ok done) left leaves held holds old new text script is whole ok err = ((text, ok.0, subst (IsWhole left leaves) (sym is) whole, ok.1, ok.2, ok.3), ok.4)
ran_lines strict (Err fault) left leaves held holds old new text script is whole ok err = inr (text, subst (IsWhole left leaves) (sym is) whole, err)
