use Rattle.std.proofs.Common.{◌≡◌, IsTrue, length}
use Rattle.std.specs.List.{All}
use Rattle.command_text.specs.Script.{commands_of}
use Rattle.record_file.specs.Durable.{overlay}
use Rattle.file_session.specs.Overlaid.{IsLogCommand, writes_said}
use Rattle.file_session.proofs.overlaying.overlay_text.Given as goal

abbrev pub decreases-loop-rest : goal.decreases-loop-rest
decreases-loop-rest g l = length l.rest

-- what is left to be put over the table makes what the whole text makes
abbrev pub invariant-loop-rest : goal.invariant-loop-rest
invariant-loop-rest g l =
    (IsTrue (g.T.TableState.sound l.fn.table) → overlay (g.T.TableState.contents l.table) (writes_said (commands_of l.rest)) ≡ overlay (g.T.TableState.contents l.fn.table) (writes_said (commands_of l.fn.text)))
    × (All IsLogCommand (commands_of l.rest) → All IsLogCommand (commands_of l.fn.text))
    × (All IsLogCommand (commands_of l.fn.text) → All IsLogCommand (commands_of l.rest))
    × (g.T.TableState.sound l.table ≡ g.T.TableState.sound l.fn.table)
    × (g.T.TableState.origin l.table ≡ g.T.TableState.origin l.fn.table)
    × (g.T.TableState.device_failures l.table ≡ g.T.TableState.device_failures l.fn.table)
