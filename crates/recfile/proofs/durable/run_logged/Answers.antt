use Rattle.std.proofs.Common.{◌≡◌, ◌≤◌, inl, arith, ℕ, true, List, [], ◌∷◌, is_some, Result, Ok, Err, OnOk, IsTrue, refl, sym, ap, subst, ◌∙◌}
use Rattle.std.specs.FinMap as maps
use Rattle.std.specs.Result.{is_err}
use Rattle.btree_delete.specs.TableView.{TableView, table_contents}
use Rattle.btree_delete.specs.Origins.{Origin}
use Rattle.page_journal.specs.Files.{Files, PageFile}
use Rattle.record_file.specs.Abstract.{OpenFile}
use Rattle.record_file.specs.Durable.{overlay}
use Rattle.record_file.specs.Runs.{Seen, seen_as}
use Rattle.rec_types.specs.Contents.{Contents}
use Rattle.rec_types.specs.LimitBounds.{most_records}
use Rattle.file_session.specs.Beside.{IsSettledWith, LeavesEnded, LosesNone}
use Rattle.file_session.specs.Beginning.{IsBegunBeside}
use Rattle.recfile.specs.DurableSession.{logged_file}
use Rattle.file_session.specs.Closing.{LeavesOld, opening_file}
use Rattle.file_session.specs.LogOver.{head_line}
use Rattle.file_session.specs.LogKeeping.{IsKeptBeside}
use Rattle.file_session.specs.Overlaid.{writes_in_turn}
use Rattle.recfile.specs.SessionCommits.{MakesCommits, in_doubt}
use Rattle.recfile.specs.WholeSession.{IsSession, IsUncounted}
use Rattle.recfile.specs.declared.endings.EndFault.{EndFault}
use Rattle.recfile.proofs.DurableLemmas.{DoubtIs, each_finds, ended_finds_all, opening_finds}
use Rattle.recfile.proofs.DurableRunLemmas.{limit_kept, doubt_is, logged_commits, logged_doubt, made, new_commits, new_doubt, opening_kept, order_kept, records_made, within}
use Rattle.recfile.proofs.OpenedLemmas.{begun_logged, fresh_logged, never_4, treed}
use Rattle.recfile.proofs.durable.run_logged.Given as given
use Rattle.recfile.proofs.durable.run_logged.Goals as goal
use Rattle.recfile.proofs.durable.run_logged.Goals.{After-abandon-table}

pub returns-in-Ok-clause-ran : goal.returns-in-Ok-clause-ran
returns-in-Ok-clause-ran g c = record {
  old = seen_as true treed c.new-file.result;
  file = begun_logged c.new-file.result c.args.table c.args.limits c.new-file.ensures;
  logged = refl;
  run = record {
    answer = c.run_session-end.result.script;
    ended = Ok c.in-Ok.field-0;
    mid = c.run_session-end.ensures.session.0;
    new = seen_as true treed c.run_session-end.new.file;
    session = subst (λ e. IsSession c.args.manner (g.R.CountedRead.left c.args.reader.now) (g.R.CountedRead.left c.run_session-end.new.reader) (g.W.CountedWrite.held c.args.out.now) (g.W.CountedWrite.held c.run_session-end.new.out) (seen_as true treed c.new-file.result) c.run_session-end.ensures.session.0 c.run_session-end.result.script e (seen_as true treed c.run_session-end.new.file)) c.in-Ok.is c.run_session-end.ensures.session.1;
    status_is = ap (λ e. e.status) c.close_logged.ensures.end;
    fault = c.close_logged.ensures.fault;
    untried = tt;
    failed = c.run_session-end.ensures.failed;
  };
  flush = ap (λ e. e.flushed) c.close_logged.ensures.end;
}

pub returns-in-Err-clause-ran : goal.returns-in-Err-clause-ran
returns-in-Err-clause-ran g c = record {
  old = seen_as true treed c.new-file.result;
  file = begun_logged c.new-file.result c.args.table c.args.limits c.new-file.ensures;
  logged = refl;
  run = record {
    answer = c.run_session-end.result.script;
    ended = Err c.in-Err.field-0;
    mid = c.run_session-end.ensures.session.0;
    new = seen_as true treed c.run_session-end.new.file;
    session = subst (λ e. IsSession c.args.manner (g.R.CountedRead.left c.args.reader.now) (g.R.CountedRead.left c.run_session-end.new.reader) (g.W.CountedWrite.held c.args.out.now) (g.W.CountedWrite.held c.run_session-end.new.out) (seen_as true treed c.new-file.result) c.run_session-end.ensures.session.0 c.run_session-end.result.script e (seen_as true treed c.run_session-end.new.file)) c.in-Err.is c.run_session-end.ensures.session.1;
    status_is = c.exit_status.ensures;
    fault = tt;
    untried = refl;
    failed = c.run_session-end.ensures.failed;
  };
  flush = refl;
}

pub returns-in-Ok-clause-stopped : goal.returns-in-Ok-clause-stopped
returns-in-Ok-clause-stopped g c steady four =
    absurd (never_4 (is_some c.close_logged.result.unclosed) (is_err c.run_session-end.result.script) (sym (ap (λ e. e.status) c.close_logged.ensures.end) ∙ four))

pub returns-in-Err-clause-stopped : goal.returns-in-Err-clause-stopped
returns-in-Err-clause-stopped g c steady four =
    let kept = subst (λ (x : TableView × TableView). IsKeptBeside x.0 x.1) (λ i. (ap (λ (f : OpenFile TableView). f.table) c.new-file.ensures i, sym c.abandon-table.ensures i)) c.run_session-end.ensures.moves in
    subst (λ (f : PageFile). LeavesOld g.D.DiskState f c.give_back.result) (opening_kept c.args.table c.abandon-table.result kept).0 (c.give_back.ensures.old (ap (λ (o : Origin). o.steady) kept ∙ steady))

-- a table has no more records than it may have
fits : (seen count many most limit : ℕ) → many ≡ seen → count ≡ many → count ≤ most → most ≡ limit → seen ≤ limit
fits seen count many most limit same counts few is = omega (arith, same, counts, few, is)

-- the session that was run over the file beside which a log was begun, with that end
module _ (g : given.Over) (c : After-abandon-table g) (steady : IsTrue c.args.table.pages.steady) (uncounted : IsUncounted c.args.table) (begun : IsBegunBeside c.args.table.pages.opening) (ended : Result ℕ EndFault) (is : c.run_session-end.result.ended ≡ ended) where
  abbrev head : List (List (List ℕ))
  head = (head_line (opening_file c.args.table.pages.opening) ∷ []) ∷ []

  session : IsSession c.args.manner (g.R.CountedRead.left c.args.reader.now) (g.R.CountedRead.left c.run_session-end.new.reader) (g.W.CountedWrite.held c.args.out.now) (g.W.CountedWrite.held c.run_session-end.new.out) (logged_file (table_contents c.args.table) c.args.limits c.args.table.pages.failures head) c.run_session-end.ensures.session.0 c.run_session-end.result.script ended (seen_as true treed c.run_session-end.new.file)
  session =
      subst (λ (x : Seen × Result ℕ EndFault). IsSession c.args.manner (g.R.CountedRead.left c.args.reader.now) (g.R.CountedRead.left c.run_session-end.new.reader) (g.W.CountedWrite.held c.args.out.now) (g.W.CountedWrite.held c.run_session-end.new.out) x.0 c.run_session-end.ensures.session.0 c.run_session-end.result.script x.1 (seen_as true treed c.run_session-end.new.file)) (λ i. (fresh_logged c.new-file.result c.args.table c.args.limits head c.new-file.ensures steady uncounted begun.commits begun.doubt i, is i)) c.run_session-end.ensures.session.1

  abbrev kept : MakesCommits (logged_file (table_contents c.args.table) c.args.limits c.args.table.pages.failures head) c.run_session-end.ensures.session.0
  kept = made (table_contents c.args.table) c.args.limits c.args.table.pages.failures head c.args.manner _ _ _ _ c.run_session-end.ensures.session.0 c.run_session-end.result.script ended (seen_as true treed c.run_session-end.new.file) session

  records : OnOk ended (table_contents c.run_session-end.new.file.table ≡ overlay (table_contents c.args.table) (writes_in_turn kept.kept))
  records = records_made (table_contents c.args.table) c.args.limits c.args.table.pages.failures head c.args.manner _ _ _ _ c.run_session-end.ensures.session.0 c.run_session-end.result.script ended (seen_as true treed c.run_session-end.new.file) session

  file_steady : IsTrue c.run_session-end.new.file.table.pages.steady
  file_steady = session.asks.sound ∙ kept.sound

  table_steady : IsTrue c.abandon-table.result.pages.steady
  table_steady = ap (λ (t : TableView). t.pages.steady) c.abandon-table.ensures ∙ file_steady

  moves : IsKeptBeside c.args.table c.abandon-table.result
  moves = subst (λ (x : TableView × TableView). IsKeptBeside x.0 x.1) (λ i. (ap (λ (f : OpenFile TableView). f.table) c.new-file.ensures i, sym c.abandon-table.ensures i)) c.run_session-end.ensures.moves

  same_file : opening_file c.abandon-table.result.pages.opening ≡ opening_file c.args.table.pages.opening
  same_file = (opening_kept c.args.table c.abandon-table.result moves).0

  still_logged : c.abandon-table.result.pages.opening.logged ≡ true
  still_logged = (opening_kept c.args.table c.abandon-table.result moves).1 ∙ begun.logged

  commits : c.abandon-table.result.pages.opening.commits ≡ (head_line (opening_file c.args.table.pages.opening) ∷ []) ∷ kept.units
  commits =
      ap (λ (t : TableView). t.pages.opening.commits) c.abandon-table.ensures
      ∙ sym (logged_commits c.run_session-end.new.file file_steady)
      ∙ new_commits (table_contents c.args.table) c.args.limits c.args.table.pages.failures head c.args.manner _ _ _ _ c.run_session-end.ensures.session.0 c.run_session-end.result.script ended (seen_as true treed c.run_session-end.new.file) session

  doubt : DoubtIs c.abandon-table.result.pages.opening.doubt (in_doubt kept.doubted)
  doubt = subst (λ (d : List ℕ). DoubtIs d (in_doubt kept.doubted)) (sym (ap (λ (t : TableView). t.pages.opening.doubt) c.abandon-table.ensures ∙ sym (logged_doubt c.run_session-end.new.file file_steady) ∙ new_doubt (table_contents c.args.table) c.args.limits c.args.table.pages.failures head c.args.manner _ _ _ _ c.run_session-end.ensures.session.0 c.run_session-end.result.script ended (seen_as true treed c.run_session-end.new.file) session))
      (doubt_is (logged_file (table_contents c.args.table) c.args.limits c.args.table.pages.failures head) c.run_session-end.ensures.session.0 kept refl)

  order : c.abandon-table.result.tree.order ≡ c.args.table.tree.order
  order = order_kept c.args.table c.abandon-table.result moves

pub returns-in-Ok-clause-session : goal.returns-in-Ok-clause-session
returns-in-Ok-clause-session g c steady uncounted begun within_limit =
    let here = (goal.at.returns-in-Ok-clause-session g c).After-abandon-table in
    let d = g.D.DiskState in
    let ended = Ok c.in-Ok.field-0 in
    let k = kept g here steady uncounted begun ended c.in-Ok.is in
    let contents = table_contents c.args.table in
    let file = opening_file c.args.table.pages.opening in
    let opening = c.abandon-table.result.pages.opening in
    let holds = within c.args.limits.records c.args.table.tree.order contents file (subst (λ (n : ℕ). n ≤ most_records) c.records-most.ensures.value c.records-most.ensures.most) within_limit in
    let records_are : table_contents c.abandon-table.result ≡ overlay contents (writes_in_turn k.kept) = ap table_contents c.abandon-table.ensures ∙ records g here steady uncounted begun ended c.in-Ok.is in
    let order_is = order g here steady uncounted begun ended c.in-Ok.is in
    let tabled = table_steady g here steady uncounted begun ended c.in-Ok.is in
    let left = λ (f : Files) (since : d.left_since c.close_logged.result.disk 0 f). subst (λ (n : ℕ). LeavesEnded opening n (table_contents c.abandon-table.result) f) order_is (c.close_logged.ensures.any_moment tabled f since) in
    record {
      run = record {
        answer = c.run_session-end.result.script;
        ended = ended;
        mid = c.run_session-end.ensures.session.0;
        new = seen_as true treed c.run_session-end.new.file;
        session = session g here steady uncounted begun ended c.in-Ok.is;
        status_is = ap (λ e. e.status) c.close_logged.ensures.end;
        fault = c.close_logged.ensures.fault;
        untried = tt;
        failed = c.run_session-end.ensures.failed;
      };
      flush = ap (λ e. e.flushed) c.close_logged.ensures.end;
      made = k;
      records = records g here steady uncounted begun ended c.in-Ok.is;
      within = fits (maps.len (table_contents c.run_session-end.new.file.table)) c.count-count.result (maps.len (table_contents c.abandon-table.result)) c.abandon-table.result.limit c.args.limits.records (ap (λ (t : TableView). maps.len (table_contents t)) c.abandon-table.ensures) (c.count-count.ensures.value tabled) (c.count-count.ensures.most tabled) (limit_kept c.args.table c.abandon-table.result (moves g here steady uncounted begun ended c.in-Ok.is) ∙ c.requires.limit);
      any_moment = λ f since. ended_finds_all c.args.table.tree.order contents file holds opening f k.units k.kept (in_doubt k.doubted) (table_contents c.abandon-table.result) records_are (same_file g here steady uncounted begun ended c.in-Ok.is) (still_logged g here steady uncounted begun ended c.in-Ok.is) (commits g here steady uncounted begun ended c.in-Ok.is) (doubt g here steady uncounted begun ended c.in-Ok.is) k.says (left f since);
      lasts = λ f now. each_finds c.args.table.tree.order contents file holds opening f k.units k.kept (in_doubt k.doubted) (table_contents c.abandon-table.result) records_are (same_file g here steady uncounted begun ended c.in-Ok.is) (still_logged g here steady uncounted begun ended c.in-Ok.is) (commits g here steady uncounted begun ended c.in-Ok.is) (doubt g here steady uncounted begun ended c.in-Ok.is) k.says (left f (g.met.D.Disk.counts_now c.close_logged.result.disk 0 f (omega arith) now)) (subst (λ (n : ℕ). LosesNone opening n (table_contents c.abandon-table.result) f) order_is (c.close_logged.ensures.lasts tabled f now));
      closed = λ none. subst (λ (x : ℕ × Contents). IsSettledWith d x.0 x.1 c.close_logged.result.disk) (λ i. (order_is i, records_are i)) (c.close_logged.ensures.closed tabled none);
    }

pub returns-in-Err-clause-session : goal.returns-in-Err-clause-session
returns-in-Err-clause-session g c steady uncounted begun within_limit =
    let here = (goal.at.returns-in-Err-clause-session g c).After-abandon-table in
    let d = g.D.DiskState in
    let ended = Err c.in-Err.field-0 in
    let k = kept g here steady uncounted begun ended c.in-Err.is in
    let contents = table_contents c.args.table in
    let file = opening_file c.args.table.pages.opening in
    let opening = c.abandon-table.result.pages.opening in
    let holds = within c.args.limits.records c.args.table.tree.order contents file (subst (λ (n : ℕ). n ≤ most_records) c.records-most.ensures.value c.records-most.ensures.most) within_limit in
    let tabled = table_steady g here steady uncounted begun ended c.in-Err.is in
    record {
      run = record {
        answer = c.run_session-end.result.script;
        ended = ended;
        mid = c.run_session-end.ensures.session.0;
        new = seen_as true treed c.run_session-end.new.file;
        session = session g here steady uncounted begun ended c.in-Err.is;
        status_is = c.exit_status.ensures;
        fault = tt;
        untried = refl;
        failed = c.run_session-end.ensures.failed;
      };
      flush = refl;
      made = k;
      records = tt;
      within = tt;
      any_moment = λ f since. opening_finds c.args.table.tree.order contents file holds opening f k.units k.kept (in_doubt k.doubted) (same_file g here steady uncounted begun ended c.in-Err.is) (still_logged g here steady uncounted begun ended c.in-Err.is) (commits g here steady uncounted begun ended c.in-Err.is) (doubt g here steady uncounted begun ended c.in-Err.is) k.says (c.give_back.ensures.commits tabled f since);
      lasts = λ f now. each_finds c.args.table.tree.order contents file holds opening f k.units k.kept (in_doubt k.doubted) (overlay contents (writes_in_turn k.kept)) refl (same_file g here steady uncounted begun ended c.in-Err.is) (still_logged g here steady uncounted begun ended c.in-Err.is) (commits g here steady uncounted begun ended c.in-Err.is) (doubt g here steady uncounted begun ended c.in-Err.is) k.says (inl (inl (c.give_back.ensures.commits tabled f (g.met.D.Disk.counts_now c.give_back.result 0 f (omega arith) now)))) (inl (c.give_back.ensures.lasts tabled f now));
      closed = tt;
    }
