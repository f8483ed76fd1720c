use Rattle.std.proofs.Common.{◌≡◌, ◌≤◌, ℕ, inl, IfSome, MatchOption, sym, ap, subst, ◌∙◌}
use Rattle.rec_types.specs.Contents.{Contents}
use Rattle.rec_types.specs.Table.{counted}
use Rattle.btree_insert.specs.declared.tree.Tree.{Tree}
use Rattle.btree_delete.specs.TableView.{IsClosed}
use Rattle.page_journal.specs.Files.{Files, recovered}
use Rattle.file_session.specs.Opened.{CanBeOpened, IsOutsideFile}
use Rattle.file_session.specs.FileFaults.{is_file_device}
use Rattle.recfile.specs.Kept.{ClosesSafely}
use Rattle.file_session.specs.Closing.{IsOutsideDisk}
use Rattle.recfile.specs.WholeSession.{EndsFile, opened_file}
use Rattle.file_session.specs.declared.file_fault.FileFault.{FileFault}
use Rattle.file_session.proofs.ClosingCountLemmas.{device_of_recovery, some_told}
use Rattle.recfile.proofs.KeptLemmas.{wider, at_some}
use Rattle.file_session.proofs.ClosingLemmas.{not_recovered}
use Rattle.recfile.proofs.kept_file.run_kept.Goals as goal

pub returns-in-Ok-clause-session : goal.returns-in-Ok-clause-session
returns-in-Ok-clause-session g c steady tree contents version closed few =
    wider c.run_stored.result.unopened _ IsOutsideFile (IsOutsideDisk (g.D.DiskState.began c.args.disk)) (λ fault outside. inl outside)
    (subst (λ (x : Files × ℕ). (tree : Tree) → (contents : Contents) → (version : ℕ) → IsClosed version (recovered x.0).pages (recovered x.0).tail tree contents → tree.count ≤ c.args.limits.records → MatchOption c.run_stored.result.unopened (EndsFile c.args.manner (g.R.CountedRead.left c.args.reader.now) (g.R.CountedRead.left c.run_stored.new.reader) (g.W.CountedWrite.held c.args.out.now) (g.W.CountedWrite.held c.run_stored.new.out) c.args.calls.now c.run_stored.new.calls (opened_file contents c.args.limits x.1) (ClosesSafely g.D.DiskState (recovered x.0) c.run_stored.result.disk c.run_stored.result.unclosed tree.order) c.run_stored.result.unclosed c.run_stored.result.status) IsOutsideFile) (λ i. (c.in-Ok.ensures.began i, c.in-Ok.ensures.failures i)) (c.run_stored.ensures.session (c.in-Ok.ensures.steady ∙ steady)) tree contents version closed few)

pub returns-in-Ok-clause-closed : goal.returns-in-Ok-clause-closed
returns-in-Ok-clause-closed g c steady none =
    subst (λ (f : Files). CanBeOpened (recovered f).pages (recovered f).tail c.args.limits.records) c.in-Ok.ensures.began (c.run_stored.ensures.closed (c.in-Ok.ensures.steady ∙ steady) none)

pub returns-in-Ok-clause-device : goal.returns-in-Ok-clause-device
returns-in-Ok-clause-device g c =
    subst (λ n. IfSome c.run_stored.result.unopened (λ (fault : FileFault). g.D.DiskState.failures c.run_stored.result.disk ≡ counted n (is_file_device fault))) c.in-Ok.ensures.failures c.run_stored.ensures.device

pub returns-in-Err-clause-device : goal.returns-in-Err-clause-device
returns-in-Err-clause-device g c =
    let failed = g.D.DiskState.failures c.args.disk in
    some_told c.unopened.result.unopened c.from.result (λ f. g.D.DiskState.failures c.unopened.result.disk ≡ counted failed (is_file_device f)) (ap (λ e. e.unopened) c.unopened.ensures)
    (ap (λ e. g.D.DiskState.failures e.disk) c.unopened.ensures ∙ c.in-Err.ensures.device ∙ ap (counted failed) (device_of_recovery c.in-Err.fault) ∙ ap (λ (f : FileFault). counted failed (is_file_device f)) (sym c.from.ensures))

pub returns-in-Err-clause-session : goal.returns-in-Err-clause-session
returns-in-Err-clause-session g c steady tree contents version closed few =
    at_some c.unopened.result.unopened c.from.result _ (IsOutsideDisk (g.D.DiskState.began c.args.disk)) (ap (λ e. e.unopened) c.unopened.ensures)
    (not_recovered (g.D.DiskState.began c.args.disk) c.in-Err.fault c.from.result c.from.ensures (c.in-Err.ensures.bad_journal steady))
