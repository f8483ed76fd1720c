use Rattle.std.proofs.Common.{◌∙◌, false, OnOk, Result, IsTrue, refl, ap, subst}
use Rattle.std.specs.Result.{is_err}
use Rattle.rec_types.specs.Table.{counted}
use Rattle.btree_delete.specs.TableView.{table_contents}
use Rattle.file_session.specs.FileFaults.{is_device_answer}
use Rattle.file_session.specs.Beside.{HoldsWhole}
use Rattle.file_session.specs.Closing.{CountsClosing, IsKeptWith}
use Rattle.file_session.specs.declared.file_fault.FileFault.{FileFault}
use Rattle.file_session.proofs.ClosingLemmas.{ok_wider}
use Rattle.file_session.proofs.SettlingLemmas.{ended_leaves, ended_loses, settled_with}
use Rattle.file_session.proofs.settling.close_beside.Given as given
use Rattle.file_session.proofs.settling.close_beside.Goals as goal
use Rattle.file_session.proofs.settling.close_beside.Goals.{After-end_beside}

-- the file was closed
module _ (g : given.Over) (c : After-end_beside g) (steady : IsTrue c.args.table.pages.steady) where
  at_ok : {P : Type 0} → OnOk c.close_table-disk.result.1 P → P
  at_ok {P} known = subst (λ (r : Result (Unit {0}) FileFault). OnOk r P) c.in-Ok.is known

  kept : IsKeptWith g.D.DiskState c.args.table.tree.order (table_contents c.args.table) c.close_table-disk.result.0
  kept = at_ok (c.close_table-disk.ensures.closed steady)

  whole : HoldsWhole g.D.DiskState c.args.table.pages.opening c.args.table.tree.order (table_contents c.args.table) c.close_table-disk.result.0
  whole = at_ok (c.close_table-disk.ensures.whole steady)

pub returns-in-Ok-clause-any_moment : goal.returns-in-Ok-clause-any_moment
returns-in-Ok-clause-any_moment g c steady left since =
    let here = (goal.at.returns-in-Ok-clause-any_moment g c).After-end_beside in
    ended_leaves g.D.DiskState (g.met.D.Disk.counts_now) c.args.table.pages.opening c.args.table.tree.order (table_contents c.args.table) c.close_table-disk.result.0 c.end_beside.result.0 (kept g here steady).settled (whole g here steady).holds (whole g here steady).whole (c.close_table-disk.ensures.commits steady) c.end_beside.ensures.pages c.end_beside.ensures.any_moment left since

pub returns-in-Ok-clause-lasts : goal.returns-in-Ok-clause-lasts
returns-in-Ok-clause-lasts g c steady left now =
    let here = (goal.at.returns-in-Ok-clause-lasts g c).After-end_beside in
    ended_loses g.D.DiskState (g.met.D.Disk.counts_now) c.args.table.pages.opening c.args.table.tree.order (table_contents c.args.table) c.close_table-disk.result.0 c.end_beside.result.0 (kept g here steady).settled (whole g here steady).holds (c.close_table-disk.ensures.lasts steady) c.end_beside.ensures.pages c.end_beside.ensures.any_moment left now

pub returns-in-Ok-clause-settled : goal.returns-in-Ok-clause-settled
returns-in-Ok-clause-settled g c steady =
    let here = (goal.at.returns-in-Ok-clause-settled g c).After-end_beside in
    ok_wider c.end_beside.result.1 _ _ (settled_with g.D.DiskState (g.met.D.Disk.counts_now) c.args.table.tree.order (table_contents c.args.table) c.close_table-disk.result.0 c.end_beside.result.0 (kept g here steady).settled (whole g here steady).holds c.end_beside.ensures.pages) c.end_beside.ensures.gone

pub returns-in-Ok-clause-failures : goal.returns-in-Ok-clause-failures
returns-in-Ok-clause-failures g c unsealed tail =
    let before = c.args.table.pages.failures in
    let closed = subst (λ (r : Result (Unit {0}) FileFault). CountsClosing before (is_err r) (is_device_answer r) (g.D.DiskState.failures c.close_table-disk.result.0)) c.in-Ok.is (c.close_table-disk.ensures.device unsealed tail) in
    record {
      again = false;
      failures = c.end_beside.ensures.failures ∙ ap (λ n. counted n (is_device_answer c.end_beside.result.1)) (closed.failures ∙ ap (counted before) (closed.once refl));
      once = λ ok. refl;
    }
