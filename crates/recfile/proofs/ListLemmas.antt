-- The reply to a list whose entries went to its text.
use Rattle.std.proofs.Common.{◌≡◌, ℕ, Bool, false, List, [], ◌∷◌, ◌++◌, Result, Ok, Err, length, refl, ap, sym, subst, ◌∙◌, append_assoc, arith}
use Rattle.std.specs.List.{flat_map}
use Rattle.std.specs.String.{string_bytes}
use Rattle.rec_types.specs.declared.memory.Memory.{Memory}
use Rattle.rec_types.specs.declared.table_state.TableState.{Ghosts}
use Rattle.rec_types.specs.declared.transaction.Entry.{Entry}
use Rattle.command_text.specs.Texts.{entry_line, line, number_text}
use Rattle.command_text.specs.declared.command.Command.TheVariants as commands
use Rattle.command_text.specs.declared.reply.Reply.TheVariants as replies
use Rattle.record_file.specs.Abstract.{OpenFile}
use Rattle.record_file.specs.OwnedRecords.{GoesTo}
use Rattle.record_file.specs.Runs.{Made, Entries}
use Rattle.record_file.specs.declared.fault.EntriesFault.{EntriesFault}
use Rattle.recfile.specs.ListEnd.{EndsList}
use Rattle.recfile.specs.Listed.{SpellsEntries}
use Rattle.recfile.specs.Run.{CommandTold, SameOrigin, ToldReply}
use Rattle.recfile.specs.declared.list_text.ListText.{ListText}
use Rattle.recfile.proofs.CallRunLemmas.{told_by}

-- its theorem is that of the command
pub list_told : {T E : Type 0} (t : Ghosts T) (old new : OpenFile T) (answer : Result (List Entry) EntriesFault) → Made t old (Entries answer) new → (made : Result Bool E) (text : List ℕ) → ToldReply (replies.List answer) made text → CommandTold t (SameOrigin t) old (Ok commands.List) made text new
list_told t old new answer is made text told = told_by t old new (Entries answer) is (Ok commands.List) (replies.List answer) made text (λ logged. refl) (λ logged. tt) (λ logged same. same) refl told

-- the entries that went to an empty text, and then how many they are; or why there is no list
pub list_ends : (start behind : ListText) (answer : Result (List Entry) EntriesFault) (told : Result (Result (Unit {0}) Memory) EntriesFault) (made : Result Bool Memory) (text : List ℕ) → string_bytes start.text ≡ [] → start.count ≡ 0
    → GoesTo (λ es. SpellsEntries start es behind) (λ es fault. Unit {0}) answer told → EndsList behind told made text → ToldReply (replies.List answer) made text
list_ends start behind (Ok es) (Ok (Ok done)) (Ok refused) text empty none goes is =
    let lines = flat_map entry_line es in
    let count : behind.count ≡ length es = omega (arith, none, goes.1) in (
      is.0
          ∙ ap (λ (t : List ℕ). t ++ line (number_text behind.count)) (goes.0 ∙ ap (λ (t : List ℕ). t ++ lines) empty)
          ∙ ap (λ (n : ℕ). lines ++ line (number_text n)) count
          ∙ sym (append_assoc lines (number_text (length es)) (10 ∷ [])),
      is.1,
    )
list_ends start behind (Ok es) (Ok (Ok done)) (Err fault) text empty none goes is = tt
list_ends start behind (Ok es) (Ok (Err fault)) made text empty none goes is = subst (λ (m : Result Bool Memory). ToldReply (replies.List (Ok es)) m text) (sym is) tt
list_ends start behind (Err named) (Err fault) made text empty none goes is = subst (λ (f : EntriesFault). ToldReply (replies.List (Err f)) made text) goes.0 is
list_ends start behind (Ok es) (Err fault) made text empty none goes is = absurd goes
list_ends start behind (Err named) (Ok taken) made text empty none goes is = absurd goes
