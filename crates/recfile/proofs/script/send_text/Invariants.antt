use Rattle.std.proofs.Common.{◌≡◌, ◌-◌, ◌≤◌, length, take}
use Rattle.std.specs.Io.KnownBytes.{Appends}
use Rattle.recfile.proofs.script.send_text.Given as goal

abbrev pub decreases-loop-sent : goal.decreases-loop-sent
decreases-loop-sent g l = length l.text - l.sent

-- so many bytes of the text are written
abbrev pub invariant-loop-sent : goal.invariant-loop-sent
invariant-loop-sent g l = record {
  within : l.sent ≤ length l.text;
  written : Appends (g.W.CountedWrite.held l.fn.writer) (g.W.CountedWrite.held l.writer) (take l.sent l.text);
  calls : l.calls ≡ l.fn.calls;
}
