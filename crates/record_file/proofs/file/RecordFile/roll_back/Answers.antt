use Rattle.std.proofs.Common.{ap, ◌∙◌}
use Rattle.rec_types.specs.Table.{counted}
use Rattle.record_file.specs.Refusals.{stop_refusal, cause_by}
use Rattle.record_file.specs.Abstract.{OpenFile}
use Rattle.record_file.specs.Outside.{by_memory}
use Rattle.record_file.specs.Seen.{seen}
use Rattle.record_file.proofs.AskedLemmas.{undo_none, undo_then}
use Rattle.record_file.proofs.RollbackLemmas.{is_rolling, started_rolls}
use Rattle.record_file.proofs.TableCallLemmas.{changes_none, changes_then}
use Rattle.record_file.proofs.file.RecordFile.roll_back.Goals as goal

pub take_back-requires : goal.take_back-requires
take_back-requires g c = is_rolling c.args.self.now.file c.start_rollback.new.self.file c.args.tx.0 c.args.n c.args.ends (ap (λ (s : OpenFile _). s.file) c.start_rollback.ensures)

pub returns-clause-rolled : goal.returns-clause-rolled
returns-clause-rolled g c = started_rolls c.args.self.now.file c.start_rollback.new.self.file c.take_back.new.self.file c.args.tx.0 c.args.n c.args.ends c.take_back.result (ap (λ (s : OpenFile _). s.file) c.start_rollback.ensures) c.take_back.ensures.rolled

pub returns-clause-table : goal.returns-clause-table
returns-clause-table g c = changes_then g.T.TableState c.args.self.now c.start_rollback.new.self c.take_back.new.self (cause_by stop_refusal c.take_back.result) (changes_none g.T.TableState c.args.self.now c.start_rollback.new.self _ c.start_rollback.ensures) c.take_back.ensures.table

pub returns-clause-memory : goal.returns-clause-memory
returns-clause-memory g c = c.take_back.ensures.memory ∙ ap (λ (s : OpenFile _). counted (g.T.TableState.memory_refusals s.table) (by_memory (cause_by stop_refusal c.take_back.result))) c.start_rollback.ensures

pub returns-clause-damaged : goal.returns-clause-damaged
returns-clause-damaged g c = λ sound. c.take_back.ensures.damaged (ap (λ (s : OpenFile _). g.T.TableState.sound s.table) c.start_rollback.ensures ∙ sound)

pub returns-clause-asks : goal.returns-clause-asks
returns-clause-asks g c = undo_then (seen g.T.TableState c.args.self.now) (seen g.T.TableState c.start_rollback.new.self) (seen g.T.TableState c.take_back.new.self) (cause_by stop_refusal c.take_back.result) (undo_none g.T.TableState c.args.self.now c.start_rollback.new.self (ap (λ (s : OpenFile _). s.table) c.start_rollback.ensures) (ap (λ (s : OpenFile _). s.log) c.start_rollback.ensures)) c.take_back.ensures.asks
