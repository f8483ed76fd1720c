use Rattle.std.proofs.Common.{ℕ}
use Rattle.recfile.specs.Flushing.{FlushesTimes}
use Rattle.file_session.specs.Settling.{IsJustSettled}
use Rattle.recfile.proofs.flushing.run_flushing.Given as goal

-- sessions led here from the beginning, and the next can begin
abbrev pub invariant-loop-turn : goal.invariant-loop-turn
invariant-loop-turn g l =
    (before : ℕ)
    × FlushesTimes g.D.DiskState l.fn.manner l.fn.limits before
    (record { disk = l.fn.disk; left = g.R.CountedRead.left l.fn.reader; held = g.W.CountedWrite.held l.fn.out; calls = l.fn.calls })
    (record { disk = l.disk; left = g.R.CountedRead.left l.reader; held = g.W.CountedWrite.held l.out; calls = l.calls })
    × IsJustSettled g.D.DiskState l.disk
