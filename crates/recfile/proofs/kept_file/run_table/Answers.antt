use Rattle.std.proofs.Common.{◌≡◌, false, is_some, Ok, Err, IsTrue, refl, sym, ap, subst, ◌∙◌}
use Rattle.btree_delete.specs.Origins.{Origin}
use Rattle.btree_delete.specs.TableView.{TableView, table_contents}
use Rattle.page_store.specs.Opening.{Opening}
use Rattle.record_file.specs.Abstract.{OpenFile}
use Rattle.record_file.specs.Runs.{Seen, seen}
use Rattle.rec_types.specs.Table.{counted}
use Rattle.file_session.specs.FileFaults.{file_by_device}
use Rattle.recfile.specs.Kept.{ClosesSafely}
use Rattle.file_session.specs.Closing.{CountsClosing, LeavesOld, opening_file, is_sealed, refused_calls}
use Rattle.recfile.specs.WholeSession.{IsSession, IsUncounted, opened_file}
use Rattle.recfile.proofs.SoundRunLemmas.{sound_ran}
use Rattle.recfile.specs.Statuses.{exit_status_of}
use Rattle.recfile.proofs.OpenedLemmas.{treed, fresh, begun, never_4}
use Rattle.recfile.proofs.KeptLemmas.{safely}
use Rattle.recfile.proofs.kept_file.run_table.Given as given
use Rattle.recfile.proofs.kept_file.run_table.Goals as goal
use Rattle.recfile.proofs.kept_file.run_table.Goals.{After-abandon-table}

-- what the session was, over the file that was opened, and that its table is sound
module _ (g : given.Over) (c : After-abandon-table g) where
  session : IsTrue c.args.table.pages.steady → IsUncounted c.args.table
      → IsSession c.args.manner (g.R.CountedRead.left c.args.reader.now) (g.R.CountedRead.left c.run_session-end.new.reader) (g.W.CountedWrite.held c.args.out.now) (g.W.CountedWrite.held c.run_session-end.new.out) (opened_file (table_contents c.args.table) c.args.limits c.args.table.pages.failures) c.run_session-end.ensures.session.0 c.run_session-end.result.script c.run_session-end.result.ended (seen treed c.run_session-end.new.file)
  session steady uncounted =
      subst (λ (s : Seen). IsSession c.args.manner (g.R.CountedRead.left c.args.reader.now) (g.R.CountedRead.left c.run_session-end.new.reader) (g.W.CountedWrite.held c.args.out.now) (g.W.CountedWrite.held c.run_session-end.new.out) s c.run_session-end.ensures.session.0 c.run_session-end.result.script c.run_session-end.result.ended (seen treed c.run_session-end.new.file)) (fresh c.new-file.result c.args.table c.args.limits c.new-file.ensures steady uncounted) c.run_session-end.ensures.session.1

  sound : IsTrue c.args.table.pages.steady → IsUncounted c.args.table → IsTrue c.run_session-end.ensures.session.0.sound
  sound steady uncounted =
      sound_ran c.args.manner c.run_session-end.result.script _ _ _ _ (opened_file (table_contents c.args.table) c.args.limits c.args.table.pages.failures) c.run_session-end.ensures.session.0 (session steady uncounted).script

  table_steady : IsTrue c.args.table.pages.steady → IsUncounted c.args.table → IsTrue c.abandon-table.result.pages.steady
  table_steady steady uncounted =
      ap (λ (t : TableView). t.pages.steady) c.abandon-table.ensures ∙ (session steady uncounted).asks.sound ∙ sound steady uncounted

  same_opening : c.abandon-table.result.pages.opening ≡ c.args.table.pages.opening
  same_opening = ap (λ (t : TableView). t.pages.opening) c.abandon-table.ensures ∙ ap (λ (o : Origin). o.opening) c.run_session-end.ensures.moves ∙ ap (λ (f : OpenFile TableView). f.table.pages.opening) c.new-file.ensures

  same_order : c.run_session-end.new.file.table.tree.order ≡ c.args.table.tree.order
  same_order = ap (λ (o : Origin). o.order) c.run_session-end.ensures.moves ∙ ap (λ (f : OpenFile TableView). f.table.tree.order) c.new-file.ensures

pub returns-in-Ok-clause-ran : goal.returns-in-Ok-clause-ran
returns-in-Ok-clause-ran g c = (
  seen treed c.new-file.result,
  begun c.new-file.result c.args.table c.args.limits c.new-file.ensures,
  record {
    answer = c.run_session-end.result.script;
    ended = Ok c.in-Ok.field-0;
    mid = c.run_session-end.ensures.session.0;
    new = seen treed c.run_session-end.new.file;
    session = subst (λ e. IsSession c.args.manner (g.R.CountedRead.left c.args.reader.now) (g.R.CountedRead.left c.run_session-end.new.reader) (g.W.CountedWrite.held c.args.out.now) (g.W.CountedWrite.held c.run_session-end.new.out) (seen treed c.new-file.result) c.run_session-end.ensures.session.0 c.run_session-end.result.script e (seen treed c.run_session-end.new.file)) c.in-Ok.is c.run_session-end.ensures.session.1;
    status_is = c.close_kept.ensures.status ∙ ap (exit_status_of false (is_some c.close_kept.result.unclosed)) c.is_err-script_fault.ensures.value;
    fault = c.close_kept.ensures.fault;
    untried = tt;
    failed = c.run_session-end.ensures.failed;
  },
  refl,
)

pub returns-in-Err-clause-ran : goal.returns-in-Err-clause-ran
returns-in-Err-clause-ran g c = (
  seen treed c.new-file.result,
  begun c.new-file.result c.args.table c.args.limits c.new-file.ensures,
  record {
    answer = c.run_session-end.result.script;
    ended = Err c.in-Err.field-0;
    mid = c.run_session-end.ensures.session.0;
    new = seen treed c.run_session-end.new.file;
    session = subst (λ e. IsSession c.args.manner (g.R.CountedRead.left c.args.reader.now) (g.R.CountedRead.left c.run_session-end.new.reader) (g.W.CountedWrite.held c.args.out.now) (g.W.CountedWrite.held c.run_session-end.new.out) (seen treed c.new-file.result) c.run_session-end.ensures.session.0 c.run_session-end.result.script e (seen treed c.run_session-end.new.file)) c.in-Err.is c.run_session-end.ensures.session.1;
    status_is = c.exit_status.ensures;
    fault = tt;
    untried = refl;
    failed = c.run_session-end.ensures.failed;
  },
  refl,
)

-- no call was refused in the session, and the file has no tail
module _ (g : given.Over) (c : After-abandon-table g) where
  same_guard : c.abandon-table.result.pages.guard ≡ c.args.table.pages.guard
  same_guard = ap (λ (t : TableView). t.pages.guard) c.abandon-table.ensures ∙ ap (λ (o : Origin). o.guard) c.run_session-end.ensures.moves ∙ ap (λ (f : OpenFile TableView). f.table.pages.guard) c.new-file.ensures

  same_tail : c.abandon-table.result.pages.tail ≡ c.args.table.pages.tail
  same_tail = ap (λ (t : TableView). t.pages.tail) c.abandon-table.ensures ∙ ap (λ (o : Origin). o.tail) c.run_session-end.ensures.moves ∙ ap (λ (f : OpenFile TableView). f.table.pages.tail) c.new-file.ensures

pub returns-in-Ok-clause-counted : goal.returns-in-Ok-clause-counted
unfolding returns-in-Ok-clause-ran
returns-in-Ok-clause-counted g c unsealed tail =
    let here = (goal.at.returns-in-Ok-clause-counted g c).After-abandon-table in
    record {
      run = returns-in-Ok-clause-ran g c;
      failures = subst (λ n. CountsClosing n (is_some c.close_kept.result.unclosed) (file_by_device c.close_kept.result.unclosed) (g.D.DiskState.failures c.close_kept.result.disk)) (ap (λ (t : TableView). t.pages.failures) c.abandon-table.ensures)
          (c.close_kept.ensures.device (same_guard g here ∙ unsealed) (same_tail g here ∙ tail));
    }

pub returns-in-Err-clause-counted : goal.returns-in-Err-clause-counted
unfolding returns-in-Err-clause-ran
returns-in-Err-clause-counted g c unsealed tail =
    let here = (goal.at.returns-in-Err-clause-counted g c).After-abandon-table in
    let before = same_guard g here ∙ unsealed in
    let given_back = c.give_back.ensures.device (ap refused_calls before) in
    record {
      run = returns-in-Err-clause-ran g c;
      failures = record {
        again = false;
        failures = given_back.1 ∙ (λ i. counted ((ap (λ (t : TableView). t.pages.failures) c.abandon-table.ensures) i) (given_back.2 (ap is_sealed before) i));
        once = λ ok. refl;
      };
    }

pub returns-in-Ok-clause-session : goal.returns-in-Ok-clause-session
returns-in-Ok-clause-session g c steady uncounted =
    let old = opened_file (table_contents c.args.table) c.args.limits c.args.table.pages.failures in
    let here = (goal.at.returns-in-Ok-clause-session g c).After-abandon-table in
    record {
      run = record {
        answer = c.run_session-end.result.script;
        ended = Ok c.in-Ok.field-0;
        mid = c.run_session-end.ensures.session.0;
        new = seen treed c.run_session-end.new.file;
        session = subst (λ e. IsSession c.args.manner (g.R.CountedRead.left c.args.reader.now) (g.R.CountedRead.left c.run_session-end.new.reader) (g.W.CountedWrite.held c.args.out.now) (g.W.CountedWrite.held c.run_session-end.new.out) old c.run_session-end.ensures.session.0 c.run_session-end.result.script e (seen treed c.run_session-end.new.file)) c.in-Ok.is (session g here steady uncounted);
        status_is = c.close_kept.ensures.status ∙ ap (exit_status_of false (is_some c.close_kept.result.unclosed)) c.is_err-script_fault.ensures.value;
        fault = c.close_kept.ensures.fault;
        untried = tt;
        failed = c.run_session-end.ensures.failed;
      };
      sound = sound g here steady uncounted;
      closes = subst (λ (o : Opening). ClosesSafely g.D.DiskState (opening_file o) c.close_kept.result.disk c.close_kept.result.unclosed c.args.table.tree.order (table_contents c.run_session-end.new.file.table)) (same_opening g here)
          (safely g.D.DiskState (opening_file c.abandon-table.result.pages.opening) c.close_kept.result.disk c.close_kept.result.unclosed c.abandon-table.result c.run_session-end.new.file.table c.args.table.tree.order c.abandon-table.ensures (same_order g here) (c.close_kept.ensures.closed (table_steady g here steady uncounted)));
    }

pub returns-in-Err-clause-session : goal.returns-in-Err-clause-session
returns-in-Err-clause-session g c steady uncounted =
    let old = opened_file (table_contents c.args.table) c.args.limits c.args.table.pages.failures in
    let here = (goal.at.returns-in-Err-clause-session g c).After-abandon-table in
    record {
      run = record {
        answer = c.run_session-end.result.script;
        ended = Err c.in-Err.field-0;
        mid = c.run_session-end.ensures.session.0;
        new = seen treed c.run_session-end.new.file;
        session = subst (λ e. IsSession c.args.manner (g.R.CountedRead.left c.args.reader.now) (g.R.CountedRead.left c.run_session-end.new.reader) (g.W.CountedWrite.held c.args.out.now) (g.W.CountedWrite.held c.run_session-end.new.out) old c.run_session-end.ensures.session.0 c.run_session-end.result.script e (seen treed c.run_session-end.new.file)) c.in-Err.is (session g here steady uncounted);
        status_is = c.exit_status.ensures;
        fault = tt;
        untried = refl;
        failed = c.run_session-end.ensures.failed;
      };
      sound = sound g here steady uncounted;
      closes = tt;
    }

pub returns-in-Ok-clause-stopped : goal.returns-in-Ok-clause-stopped
returns-in-Ok-clause-stopped g c steady uncounted stopped =
    absurd (never_4 (is_some c.close_kept.result.unclosed) c.is_err-script_fault.result (sym c.close_kept.ensures.status ∙ stopped))

pub returns-in-Err-clause-stopped : goal.returns-in-Err-clause-stopped
returns-in-Err-clause-stopped g c steady uncounted stopped =
    let here = (goal.at.returns-in-Err-clause-stopped g c).After-abandon-table in
    subst (λ (o : Opening). LeavesOld g.D.DiskState (opening_file o) c.give_back.result) (same_opening g here) (c.give_back.ensures.old (table_steady g here steady uncounted))
