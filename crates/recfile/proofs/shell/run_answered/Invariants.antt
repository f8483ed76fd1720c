use Rattle.std.proofs.Common.{◌≡◌, ◌≤◌, ℕ, List, length}
use Rattle.std.specs.Io.KnownBytes.{Consumes}
use Rattle.record_file.specs.Runs.{seen_as}
use Rattle.recfile.specs.Shell.{AnsweredSoFar}
use Rattle.recfile.proofs.shell.run_answered.Given as goal

abbrev pub ghost-read_answered : goal.ghost-read_answered
ghost-read_answered g a = g.start

-- of what was read each line that has its LF is answered, and each read took a byte
abbrev pub invariant-loop-turn : goal.invariant-loop-turn
invariant-loop-turn g l =
    (taken : List ℕ)
    × Consumes (g.R.CountedRead.left l.fn.reader) (g.R.CountedRead.left l.reader) taken
    × AnsweredSoFar l.fn.strict (g.W.CountedWrite.held l.fn.writer) (g.W.CountedWrite.held l.writer) (seen_as g.K.Keeper.keeps g.T.TableState l.fn.file) (seen_as g.K.Keeper.keeps g.T.TableState l.file) taken l.part l.counts
    × (l.turn ≤ length taken)
    × g.K.Keeper.moves l.fn.file.table l.file.table
    × (l.calls.read_failed ≡ l.fn.calls.read_failed)
    × (l.calls.write_failed ≡ l.fn.calls.write_failed)
