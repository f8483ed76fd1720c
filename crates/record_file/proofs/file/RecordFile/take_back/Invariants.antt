use Rattle.std.proofs.Common.{◌≡◌, None}
use Rattle.rec_types.specs.History.{take_newest}
use Rattle.tx_log.specs.Transactions.{left_in}
use Rattle.record_file.specs.Abstract.{tx_of}
use Rattle.record_file.specs.Steps.{rolling_place}
use Rattle.record_file.specs.Asked.{UndoAsks}
use Rattle.record_file.specs.Seen.{seen}
use Rattle.record_file.specs.TableCalls.{ChangesTable}
use Rattle.record_file.proofs.file.RecordFile.take_back.Given as goal

-- the newest changes so far are taken back, the table failed at none of them, and the log tells of them
abbrev pub invariant-loop-undone : goal.invariant-loop-undone
invariant-loop-undone g l = record {
  file : l.self.file ≡ record l.fn.self.file { opening = l.self.file.opening; history = take_newest l.fn.self.file.history l.tx.0 (rolling_place (tx_of l.fn.self.file l.tx.0)) l.undone };
  total : l.total ≡ left_in l.fn.self.file.history l.tx.0 (tx_of l.fn.self.file l.tx.0);
  refusals : g.T.TableState.memory_refusals l.self.table ≡ g.T.TableState.memory_refusals l.fn.self.table;
  changes : ChangesTable g.T.TableState l.fn.self None l.self;
  asks : UndoAsks (seen g.T.TableState l.fn.self) None (seen g.T.TableState l.self);
}
