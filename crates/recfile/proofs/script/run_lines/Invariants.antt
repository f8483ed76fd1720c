use Rattle.std.proofs.Common.{◌≡◌, ◌+◌, ◌≤◌, List, length}
use Rattle.std.specs.List.{flat_map}
use Rattle.std.specs.Io.KnownBytes.{Appends}
use Rattle.command_text.specs.declared.reply.Reply.{Reply}
use Rattle.command_text.specs.Texts.{text_of}
use Rattle.record_file.specs.Runs.{seen_as}
use Rattle.recfile.specs.Run.{AcceptedIf}
use Rattle.recfile.proofs.ScriptRunLemmas.{Walked}
use Rattle.recfile.proofs.script.run_lines.Given as goal

abbrev pub decreases-loop-rest : goal.decreases-loop-rest
decreases-loop-rest g l = length l.rest

-- the front of the script was run, and the replies so far are written
abbrev pub invariant-loop-rest : goal.invariant-loop-rest
invariant-loop-rest g l =
    (replies : List Reply)
    × Walked l.fn.script l.rest (seen_as g.K.Keeper.keeps g.T.TableState l.fn.file) replies (seen_as g.K.Keeper.keeps g.T.TableState l.file) l.done l.lines
    × Appends (g.W.CountedWrite.held l.fn.writer) (g.W.CountedWrite.held l.writer) (flat_map text_of replies)
    × (l.done + length l.rest ≤ 1048576)
    × (l.lines + length l.rest ≤ 1048576)
    × AcceptedIf l.fn.strict replies
    × g.K.Keeper.moves l.fn.file.table l.file.table
    × (l.calls ≡ l.fn.calls)
