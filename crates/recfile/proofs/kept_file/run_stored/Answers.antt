use Rattle.std.proofs.Common.{◌≡◌, ℕ, Option, MatchOption, refl, sym, ap, subst, ◌∙◌}
use Rattle.btree_delete.specs.TableView.{IsClosed}
use Rattle.page_journal.specs.Files.{PageFile}
use Rattle.page_journal.specs.LoggedStores.{commits_in}
use Rattle.page_journal.specs.KeptStores.{failures_with, guard_of, opened_over}
use Rattle.rec_types.specs.Table.{counted}
use Rattle.btree_delete.specs.CleanFile.{is_open_device_fault}
use Rattle.record_file.specs.Runs.{Seen}
use Rattle.file_session.specs.FileFaults.{is_file_device}
use Rattle.file_session.proofs.ClosingCountLemmas.{device_of_opening, some_told, unrefused, unsealed}
use Rattle.file_session.specs.Opened.{CanBeOpened, IsOutsideFile}
use Rattle.page_store.specs.Opening.{Opening}
use Rattle.recfile.specs.Kept.{ClosesSafely}
use Rattle.file_session.specs.Closing.{opening_file}
use Rattle.recfile.specs.WholeSession.{EndsFile, opened_file}
use Rattle.file_session.specs.declared.file_fault.FileFault.{FileFault}
use Rattle.file_session.proofs.OpeningLemmas.{can_be_opened}
use Rattle.recfile.proofs.kept_file.run_stored.Goals as goal

pub returns-in-Ok-clause-closed : goal.returns-in-Ok-clause-closed
returns-in-Ok-clause-closed g c steady none =
    subst (λ (f : PageFile). CanBeOpened f.pages f.tail c.args.limits.records) (c.requires.file steady)
    (can_be_opened _ _ c.args.limits.records _ c.in-Ok.table.pages c.in-Ok.table.tree (c.in-Ok.ensures.found steady))

pub returns-in-Ok-clause-session : goal.returns-in-Ok-clause-session
returns-in-Ok-clause-session g c steady tree contents version closed few =
    let there = subst (λ (f : PageFile). IsClosed version f.pages f.tail tree contents) (sym (c.requires.file steady)) closed in
    let opened = c.in-Ok.ensures.reopened steady tree contents version there few in
    let same = c.in-Ok.ensures.over in
    let ends = λ (s : Seen) (order : ℕ) (o : Opening). EndsFile c.args.manner (g.R.CountedRead.left c.args.reader.now) (g.R.CountedRead.left c.run_table.new.reader) (g.W.CountedWrite.held c.args.out.now) (g.W.CountedWrite.held c.run_table.new.out) c.args.calls.now c.run_table.new.calls s (ClosesSafely g.D.DiskState (opening_file o) c.run_table.result.disk c.run_table.result.unclosed order) c.run_table.result.unclosed c.run_table.result.status in
    subst (λ (o : Option FileFault). MatchOption o (ends (opened_file contents c.args.limits (g.D.DiskState.failures c.args.store.disk)) tree.order (opened_over (g.D.DiskState.began c.args.store.disk) c.args.store.log (commits_in c.args.store.log (g.D.DiskState.seen c.args.store.disk)) c.args.store.doubt)) IsOutsideFile) (sym c.run_table.ensures.opened) (subst (λ (x : Seen × ℕ × Opening). ends x.0 x.1 x.2) (λ i. (opened_file (opened.1 i) c.args.limits ((same.failures ∙ ap (failures_with (g.D.DiskState.failures c.args.store.disk)) c.requires.unused.1) i), (opened.0 i).order, c.in-Ok.ensures.over.opening i)) (c.run_table.ensures.session (same.steady ∙ steady) (c.in-Ok.ensures.uncalled.no_refusals, c.in-Ok.ensures.uncalled.no_damages, c.in-Ok.ensures.uncalled.no_calls)))

pub returns-in-Ok-clause-ran : goal.returns-in-Ok-clause-ran
returns-in-Ok-clause-ran g c none =
    c.run_table.ensures.counted (c.in-Ok.ensures.over.guard ∙ (λ i. guard_of (c.requires.unused.0 i) c.args.store.kept (c.requires.unused.1 i))) c.in-Ok.ensures.no_tail

pub returns-in-Err-clause-device : goal.returns-in-Err-clause-device
returns-in-Err-clause-device g c =
    let failed = g.D.DiskState.failures c.args.store.disk in
    let store = c.in-Err.stop.store in
    let fault = c.in-Err.stop.fault in
    let guard = c.in-Err.ensures.back.stays.guard ∙ (λ i. guard_of (c.requires.unused.0 i) c.args.store.kept (c.requires.unused.1 i)) in
    let same = unrefused store.state store.kept (g.D.DiskState.failures store.disk) store.refusals (counted failed (is_open_device_fault fault)) _ guard refl
    (c.in-Err.ensures.back.failures ∙ ap (λ k. counted (failures_with failed k) (is_open_device_fault fault)) c.requires.unused.1) in
    let left = (c.take_back-disk.ensures.unsealed (unsealed store.state store.kept store.refusals _ guard refl)).0 in
    some_told c.unopened.result.unopened c.from.result (λ f. g.D.DiskState.failures c.unopened.result.disk ≡ counted failed (is_file_device f)) (ap (λ e. e.unopened) c.unopened.ensures)
    (ap (λ e. g.D.DiskState.failures e.disk) c.unopened.ensures ∙ ap g.D.DiskState.failures left ∙ same ∙ ap (counted failed) (device_of_opening fault) ∙ ap (λ (f : FileFault). counted failed (is_file_device f)) (sym c.from.ensures))
