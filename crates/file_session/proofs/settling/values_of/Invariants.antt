use Rattle.std.proofs.Common.{◌≡◌, ◌++◌, IsTrue, length}
use Rattle.command_text.specs.Script.{commands_of}
use Rattle.file_session.specs.LogOver.{values_at}
use Rattle.file_session.specs.Overlaid.{writes_said}
use Rattle.file_session.proofs.settling.values_of.Given as goal

abbrev pub decreases-loop-rest : goal.decreases-loop-rest
decreases-loop-rest g l = length l.rest

-- what is found, and what stands at the keys of the lines that are left, are what stands at all
abbrev pub invariant-loop-rest : goal.invariant-loop-rest
invariant-loop-rest g l =
    (IsTrue (g.T.TableState.sound l.fn.table) → l.values.items ++ values_at (g.T.TableState.contents l.fn.table) (writes_said (commands_of l.rest)) ≡ values_at (g.T.TableState.contents l.fn.table) (writes_said (commands_of l.fn.text)))
    × (g.T.TableState.contents l.table ≡ g.T.TableState.contents l.fn.table)
    × (g.T.TableState.sound l.table ≡ g.T.TableState.sound l.fn.table)
    × (g.T.TableState.origin l.table ≡ g.T.TableState.origin l.fn.table)
    × (g.T.TableState.device_failures l.table ≡ g.T.TableState.device_failures l.fn.table)
