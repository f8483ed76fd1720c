use Rattle.std.proofs.Common.{◌≡◌, ◌+◌, ◌≤◌, None}
use Rattle.std.specs.FinMap as maps
use Rattle.record_file.specs.Runs.{seen}
use Rattle.recfile.specs.Ending.{EndingAsks, EndsBelow}
use Rattle.recfile.proofs.endings.end_all.Given as goal

-- the open transactions up to this number have ended
abbrev pub invariant-loop-number : goal.invariant-loop-number
invariant-loop-number g l = record {
  ended : EndsBelow l.fn.file.file (l.number + 1) l.file.file;
  asks : EndingAsks (seen g.T.TableState l.fn.file) None (seen g.T.TableState l.file);
  count : l.ended + maps.len l.file.file.txs ≡ maps.len l.fn.file.file.txs;
  few : l.ended ≤ l.number;
  origin : g.T.TableState.origin l.file.table ≡ g.T.TableState.origin l.fn.file.table;
}
