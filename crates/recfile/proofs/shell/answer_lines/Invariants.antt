use Rattle.std.proofs.Common.{◌≡◌, ℕ, List, ◌++◌, length, Option}
use Rattle.record_file.specs.Runs.{Seen, seen_as}
use Rattle.recfile.specs.Shell.{AnsweredSoFar}
use Rattle.recfile.proofs.shell.answer_lines.Given as goal

abbrev pub decreases-loop-last : goal.decreases-loop-last
decreases-loop-last g l = length l.rest

-- whatever was read before, the lines that end before the rest are answered
abbrev pub invariant-loop-last : goal.invariant-loop-last
invariant-loop-last g l =
    record {
      answered : (held : Option (List ℕ)) (old : Seen) (taken : List ℕ)
          → AnsweredSoFar l.fn.strict held (g.W.CountedWrite.held l.fn.writer) old (seen_as g.K.Keeper.keeps g.T.TableState l.fn.file) taken l.fn.part l.fn.counts
          → (front : List ℕ) × (l.fn.bytes ≡ front ++ l.rest)
          × AnsweredSoFar l.fn.strict held (g.W.CountedWrite.held l.writer) old (seen_as g.K.Keeper.keeps g.T.TableState l.file) (taken ++ front) l.part l.counts;
      moves : g.K.Keeper.moves l.fn.file.table l.file.table;
      calls : l.calls ≡ l.fn.calls;
    }
