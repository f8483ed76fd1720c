use Rattle.std.proofs.Common.{◌≡◌, ◌<◌, ℕ, Some, IsTrue, Err, ap, is_some, sym, subst, ◌∙◌, option_map, arith, ◌+◌, ◌++◌, ◌∷◌, [], false, length, reverse}
use Rattle.rec_types.specs.History.{undo_last}
use Rattle.rec_types.specs.Kept.{Kept, back_of, newest_live}
use Rattle.tx_log.specs.Transactions.{left_in}
use Rattle.tx_log.specs.declared.phase.UndoStep.{UndoStep}
use Rattle.std.proofs.lemmas.Result.{err_from_is_err_and}
use Rattle.std.specs.FinMap as maps
use Rattle.tx_log.specs.LogState.{undo_step, undo_in, tx_in, open_in}
use Rattle.record_file.specs.Asked.{restores}
use Rattle.std.proofs.lemmas.List.{append-nil}
use Rattle.rec_types.specs.Calls.{is_no_room}
use Rattle.rec_types.specs.Table.{counted, damaged_by}
use Rattle.tx_log.specs.Log.{back_record, last_of, record_at}
use Rattle.tx_log.specs.LogState.{prev_in}
use Rattle.record_file.specs.TableCalls.{undone_by, step_key}
use Rattle.record_file.specs.Abstract.{File, OpenFile, file_of, tx_of}
use Rattle.rec_types.specs.declared.table.TableFault.TheVariants as table_faults
use Rattle.record_file.proofs.AskedLemmas.{step_told, refused_restores, told_lost}
use Rattle.record_file.proofs.FaultLemmas.{step_is, untold}
use Rattle.record_file.proofs.FileLemmas.{undo_has_room}
use Rattle.record_file.proofs.InvariantLemmas.{back_written, key_of_step, undone_is, undo_there, undo_kept, undo_file_is, undo_becomes, undo_record}
use Rattle.record_file.proofs.TableCallLemmas.{changes_set}
use Rattle.record_file.proofs.file.RecordFile.take_one_back.Given as given
use Rattle.record_file.proofs.file.RecordFile.take_one_back.Goals as goal
use Rattle.record_file.proofs.file.RecordFile.take_one_back.Goals.{After-next_undo, After-put_back-arg-1}

-- the change that is taken back
module _ (g : given.Over) (c : After-next_undo g) where
  newest : (u : Kept) × (undo_in c.self.inside.log c.args.tx.0 ≡ Some u) × (newest_live c.args.tx.0 c.self.inside.log.changes ≡ Some u) × IsTrue (open_in c.self.inside.log c.args.tx.0)
  newest = undo_there c.self.inside.log.changes c.args.tx.0 (tx_in c.self.inside.log c.args.tx.0) (subst (λ (s : OpenFile _). 0 < left_in s.file.history c.args.tx.0 (tx_of s.file c.args.tx.0)) (sym c.self.view_is) c.requires)

-- the step that takes it back
module _ (g : given.Over) (c : After-put_back-arg-1 g) where
  step_of : (u : Kept) → undo_in c.self.inside.log c.args.tx.0 ≡ Some u → c.unwrap-step.result ≡ undo_step u
  step_of u is = step_is c.unwrap-step.result (undo_step u) (sym c.unwrap-step.ensures ∙ c.next_undo.ensures ∙ ap (option_map undo_step) is)

pub unwrap-step-requires : goal.unwrap-step-requires
unwrap-step-requires g c =
    ap is_some (c.next_undo.ensures ∙ ap (option_map undo_step) (newest g (goal.at.unwrap-step-requires g c).After-next_undo).1)

pub invariant_of-self-2 : goal.invariant_of-self-2
invariant_of-self-2 g c =
    let places = goal.at.invariant_of-self-2 g c in
    let u = newest g places.After-next_undo in
    undo_kept _ _ _ c.self.inside.log c.self.invariant c.compensate-lsn.ensures.kept _ _ _ c.compensate-lsn.new.self c.args.tx u.0 c.unwrap-step.result c.in_ok-put_back.ensures.answered.soundness c.in_ok-put_back.ensures.answered.limit u.1 u.2 u.3
    (step_of g places.After-put_back-arg-1 u.0 u.1) c.in_ok-put_back.ensures.ok c.compensate-lsn.ensures.after

pub returns-clause-ok : goal.returns-clause-ok
returns-clause-ok g c =
    undo_becomes _ _ _ c.self.inside.log c.self.invariant c.compensate-lsn.ensures.kept (g.T.TableState.contents c.put_back.new.table) c.compensate-lsn.new.self c.args.tx c.compensate-lsn.ensures.after
    ∙ ap (λ (s : OpenFile _). let f : File = record s.file { opening = (file_of c.compensate-lsn.new.self (g.T.TableState.contents c.put_back.new.table)).opening; history = undo_last c.args.tx.0 s.file.history } in f) c.self.view_is

-- taking back never wants room that isn't there
pub returns-in_err-put_back-clause-damaged : goal.returns-in_err-put_back-clause-damaged
returns-in_err-put_back-clause-damaged g c = λ sound.
    let places = goal.at.returns-in_err-put_back-clause-damaged g c in
    let u = newest g places.After-next_undo in
    let step = step_of g places.After-put_back-arg-1 u.0 u.1 in
    let here = ap (λ (s : OpenFile _). g.T.TableState.sound s.table) c.self.view_is ∙ sound in
    let told = err_from_is_err_and c.from_residual.result c.from_residual.ensures.1 in
    rw (told.1, told.2) (untold c.in_err-put_back.field-0.0
    (λ (is : c.in_err-put_back.field-0.0 ≡ table_faults.NoRoom).
    let full = c.in_err-put_back.ensures.no_room here (ap Err is) in
    undo_has_room (open_in c.self.inside.log) c.self.inside.log.changes (g.T.TableState.contents c.self.inside.table) c.self.inside.log.limits.records c.args.tx.0 u.0 u.3 u.2 (c.self.invariant.within here)
    (sym (ap (λ (s : UndoStep). maps.get (g.T.TableState.contents c.self.inside.table) (step_key s)) step ∙ ap (maps.get (g.T.TableState.contents c.self.inside.table)) (key_of_step u.0.key (back_of u.0))) ∙ full.0) (omega (arith, full.1, c.self.invariant.limited)))
    (λ (page : ℕ) (is : c.in_err-put_back.field-0.0 ≡ table_faults.Damaged page). c.in_err-put_back.ensures.answered.whole here page (ap Err is)))

-- a stop changes nothing, and a step is told by its compensation
pub returns-clause-table : goal.returns-clause-table
returns-clause-table g c =
    let places = goal.at.returns-clause-table g c in
    let u = newest g places.After-next_undo in
    changes_set g.T.TableState _ _ _ _ _ c.self.view_is c.in_ok-put_back.ensures.answered
    (undo_record _ _ _ c.self.inside.log c.self.invariant c.compensate-lsn.ensures.kept c.compensate-lsn.new.self c.args.tx u.0 u.1 c.compensate-lsn.ensures.after)
    (λ sound. c.in_ok-put_back.ensures.ok sound ∙ ap (undone_by (g.T.TableState.contents c.self.inside.table)) (step_of g places.After-put_back-arg-1 u.0 u.1) ∙ undone_is (g.T.TableState.contents c.self.inside.table) u.0.key (back_of u.0) ∙ sym (back_written (g.T.TableState.contents c.self.inside.table) _ _ c.args.tx u.0.key (back_of u.0) _))
    (λ here. ap (λ (f : File). f.opening) (undo_file_is _ _ _ c.self.inside.log c.self.invariant c.compensate-lsn.ensures.kept (g.T.TableState.contents c.put_back.new.table) c.compensate-lsn.new.self c.args.tx u.0 c.unwrap-step.result u.2
    (step_of g places.After-put_back-arg-1 u.0 u.1) (c.in_ok-put_back.ensures.ok here) c.compensate-lsn.ensures.after))

-- what was asked of the table

pub returns-clause-asks : goal.returns-clause-asks
returns-clause-asks g c =
    let places = goal.at.returns-clause-asks g c in
    let u = newest g places.After-next_undo in
    let asks = c.in_ok-put_back.ensures.asks in
    let told = ap restores (step_of g places.After-put_back-arg-1 u.0 u.1) ∙ step_told u.0.key (back_of u.0) _ _ c.args.tx _ in
    let grown = undo_record _ _ _ c.self.inside.log c.self.invariant c.compensate-lsn.ensures.kept c.compensate-lsn.new.self c.args.tx u.0 u.1 c.compensate-lsn.ensures.after in
    record {
      more = back_record (length c.self.inside.log.records + 1) (last_of c.args.tx.0 (reverse c.self.inside.log.records)) c.args.tx u.0.key (back_of u.0) (prev_in (record_at c.self.inside.log.records u.0.lsn)) ∷ [];
      no_room = false;
      grown = grown ∙ ap (λ (s : OpenFile _). s.log ++ back_record (length c.self.inside.log.records + 1) (last_of c.args.tx.0 (reverse c.self.inside.log.records)) c.args.tx u.0.key (back_of u.0) (prev_in (record_at c.self.inside.log.records u.0.lsn)) ∷ []) c.self.view_is;
      sets = asks.sets ∙ (λ i. counted (g.T.TableState.calls (c.self.view_is i).table).sets (told i));
      gets = asks.gets ∙ ap (λ (s : OpenFile _). (g.T.TableState.calls s.table).gets) c.self.view_is;
      lists = asks.lists ∙ ap (λ (s : OpenFile _). (g.T.TableState.calls s.table).lists) c.self.view_is;
      no_rooms = asks.no_rooms ∙ ap (λ (s : OpenFile _). (g.T.TableState.calls s.table).no_rooms) c.self.view_is;
      lost = c.in_ok-put_back.ensures.answered.damages ∙ ap (λ (s : OpenFile _). g.T.TableState.damages s.table) c.self.view_is;
    }

pub returns-in_err-put_back-clause-asks : goal.returns-in_err-put_back-clause-asks
returns-in_err-put_back-clause-asks g c =
    let told = err_from_is_err_and c.from_residual.result c.from_residual.ensures.1 in
    let fault = c.in_err-put_back.field-0.0 in
    let asks = c.in_err-put_back.ensures.asks in
    let writes = refused_restores (restores c.unwrap-step.result) fault c.in_err-put_back.ensures.claim in
    rw (told.1, told.2) (record {
      more = [];
      no_room = is_no_room {A = Unit {0}} (Err fault);
      grown = ap (λ (s : OpenFile _). s.log) c.self.view_is ∙ sym (append-nil c.args.self.now.log);
      sets = asks.sets ∙ (λ i. counted (g.T.TableState.calls (c.self.view_is i).table).sets (writes i));
      gets = asks.gets ∙ ap (λ (s : OpenFile _). (g.T.TableState.calls s.table).gets) c.self.view_is;
      lists = asks.lists ∙ ap (λ (s : OpenFile _). (g.T.TableState.calls s.table).lists) c.self.view_is;
      no_rooms = asks.no_rooms ∙ ap (λ (s : OpenFile _). counted (g.T.TableState.calls s.table).no_rooms (is_no_room {A = Unit {0}} (Err fault))) c.self.view_is;
      lost = told_lost (Unit {0}) fault _ _ (c.in_err-put_back.ensures.answered.damages ∙ ap (λ (s : OpenFile _). damaged_by {A = Unit {0}} (g.T.TableState.damages s.table) (Err fault)) c.self.view_is);
    })
