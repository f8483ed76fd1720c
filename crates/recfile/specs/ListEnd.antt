-- The end of a list whose entries went to its text.
use Rattle.std.specs.Prelude.{◌≡◌, ℕ, Bool, false, List, ◌++◌, Result, Ok, Err, IfOk}
use Rattle.std.specs.String.{string_bytes}
use Rattle.rec_types.specs.declared.memory.Memory.{Memory}
use Rattle.command_text.specs.Texts.{line, number_text}
use Rattle.command_text.specs.declared.reply.Reply.TheVariants as reply
use Rattle.record_file.specs.declared.fault.EntriesFault.{EntriesFault}
use Rattle.recfile.specs.Run.{ToldReply}
use Rattle.recfile.specs.declared.list_text.ListText.{ListText}

-- The text and the line with how many its entries are; or that memory was refused for it; or why there is no list.
abbrev pub EndsList : ListText → Result (Result (Unit {0}) Memory) EntriesFault → Result Bool Memory → List ℕ → Type 0
EndsList list (Ok (Ok done)) made text = IfOk made (λ refused. (text ≡ string_bytes list.text ++ line (number_text list.count)) × (refused ≡ false))
EndsList list (Ok (Err fault)) made text = made ≡ Err fault
EndsList list (Err fault) made text = ToldReply (reply.List (Err fault)) made text
