use Rattle.std.proofs.Common.{rules, Some, None, refl, ap, ◌∙◌}
use Rattle.record_file.specs.Abstract.{OpenFile}
use Rattle.record_file.specs.Seen.{seen}
use Rattle.record_file.proofs.AskedLemmas.{undo_none, undo_then}
use Rattle.record_file.proofs.RollbackLemmas.{rolled_none, rolled_some, rolled_more, rolled_out, rolled_all}
use Rattle.record_file.proofs.TableCallLemmas.{changes_none, changes_then}
use Rattle.record_file.proofs.file.RecordFile.take_back.Goals as goal

pub loop-undone-init : goal.loop-undone-init
loop-undone-init g c = record { file = rolled_none c.args.self.now.file c.args.tx.0; total = c.left-total.ensures; refusals = refl; changes = changes_none g.T.TableState c.args.self.now c.args.self.now c.args.self.now.file.txs refl; asks = undo_none g.T.TableState c.args.self.now c.args.self.now refl refl }

pub take_one_back-requires : goal.take_one_back-requires
take_one_back-requires g c = rolled_some c.args.self.now.file c.loop-undone.self.file c.args.tx.0 c.loop-undone.undone c.left-total.result c.requires c.loop-undone.invariant.file c.loop-undone.invariant.total c.loop-undone-test.true

pub loop-undone-preserved : goal.loop-undone-preserved
loop-undone-preserved g c = record {
  file = rolled_more c.args.self.now.file c.loop-undone.self.file c.take_one_back.new.self.file c.args.tx.0 c.loop-undone.undone c.left-total.result c.requires c.loop-undone.invariant.file c.loop-undone.invariant.total c.loop-undone-test.true c.in_default.ensures.ok;
  total = c.loop-undone.invariant.total;
  refusals = c.in_default.ensures.memory ∙ c.loop-undone.invariant.refusals;
  changes = changes_then g.T.TableState c.args.self.now c.loop-undone.self c.take_one_back.new.self None c.loop-undone.invariant.changes c.in_default.ensures.table;
  asks = undo_then (seen g.T.TableState c.args.self.now) (seen g.T.TableState c.loop-undone.self) (seen g.T.TableState c.take_one_back.new.self) None c.loop-undone.invariant.asks c.in_default.ensures.asks;
}

pub finish-requires-clause-done : goal.finish-requires-clause-done
finish-requires-clause-done g c = rolled_out c.args.self.now.file c.loop-undone.self.file c.args.tx.0 c.loop-undone.undone c.left-total.result c.requires c.loop-undone.invariant.file c.loop-undone.invariant.total c.loop-undone-test.false

pub returns-clause-rolled : goal.returns-clause-rolled
returns-clause-rolled g c = rolled_all c.args.self.now.file c.loop-undone.self.file c.finish.new.self.file c.args.tx.0 c.loop-undone.undone c.left-total.result c.requires c.loop-undone.invariant.file c.loop-undone.invariant.total c.loop-undone-test.false (ap (λ (s : OpenFile _). s.file) c.finish.ensures)

pub returns-clause-table : goal.returns-clause-table
returns-clause-table g c = changes_then g.T.TableState c.args.self.now c.loop-undone.self c.finish.new.self None c.loop-undone.invariant.changes (changes_none g.T.TableState c.loop-undone.self c.finish.new.self _ c.finish.ensures)

pub returns-in-Err-clause-table : goal.returns-in-Err-clause-table
returns-in-Err-clause-table g c = changes_then g.T.TableState c.args.self.now c.loop-undone.self c.take_one_back.new.self (Some c.in-Err.cause) c.loop-undone.invariant.changes c.in-Err.ensures.table

pub returns-clause-asks : goal.returns-clause-asks
returns-clause-asks g c = undo_then (seen g.T.TableState c.args.self.now) (seen g.T.TableState c.loop-undone.self) (seen g.T.TableState c.finish.new.self) None c.loop-undone.invariant.asks (undo_none g.T.TableState c.loop-undone.self c.finish.new.self (ap (λ (s : OpenFile _). s.table) c.finish.ensures) (ap (λ (s : OpenFile _). s.log) c.finish.ensures))

pub returns-in-Err-clause-asks : goal.returns-in-Err-clause-asks
returns-in-Err-clause-asks g c = undo_then (seen g.T.TableState c.args.self.now) (seen g.T.TableState c.loop-undone.self) (seen g.T.TableState c.take_one_back.new.self) (Some c.in-Err.cause) c.loop-undone.invariant.asks c.in-Err.ensures.asks

pub returns-in-Err-clause-rolled : goal.returns-in-Err-clause-rolled
returns-in-Err-clause-rolled g c = search rules
