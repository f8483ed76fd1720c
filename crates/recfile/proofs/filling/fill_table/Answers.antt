use Rattle.std.proofs.Common.{ℕ, ⊎_elim, inl, inr, Result, OnOk, refl, sym, ap, subst, ◌∙◌}
use Rattle.rec_types.specs.Table.{counted}
use Rattle.page_store.specs.Opening.{Opening}
use Rattle.page_journal.specs.Crash.{FilesStandFor}
use Rattle.page_journal.specs.Files.{recovered}
use Rattle.page_journal.specs.KeptStores.{guard_of}
use Rattle.page_journal.specs.Recovery.{is_recovery_device as is_recovery}
use Rattle.file_session.specs.FileFaults.{is_file_device}
use Rattle.recfile.specs.Filling.{loaded}
use Rattle.file_session.specs.Closing.{HasRecords, IsKeptWith, opening_file}
use Rattle.file_session.specs.declared.file_fault.FileFault.{FileFault}
use Rattle.file_session.proofs.ClosingCountLemmas.{ok_told, unrefused}
use Rattle.recfile.proofs.FillingLemmas.{has_loaded, kept_loaded}
use Rattle.recfile.proofs.filling.fill_table.Goals as goal

pub returns-in-Err-clause-device : goal.returns-in-Err-clause-device
returns-in-Err-clause-device g c = λ unsealed tail.
    let store = c.seal_and_fill.new.store in
    let fault = c.in-Err.fault in
    let none = (c.in-Err.ensures.guard (c.abandon-store.ensures.guard ∙ unsealed) (c.abandon-store.ensures.tail ∙ tail)).0 in
    let same = unrefused store.state store.kept (g.D.DiskState.failures store.disk) store.refusals _ (guard_of store.state store.kept store.refusals) refl none c.in-Err.ensures.device in
    let again = is_recovery c.take_back-disk.result.1 in
    record {
      again = again;
      failures = c.take_back-disk.ensures.leaves.failures ∙ ap (λ n. counted n again) (same ∙ ap (λ n. counted n (is_file_device fault)) c.abandon-store.ensures.failures);
      once = λ never. absurd (cc never);
    }

pub returns-clause-any_moment : goal.returns-clause-any_moment
returns-clause-any_moment g c = λ steady left since.
    let begun = c.abandon-store.ensures.steady ∙ steady in
    let still = c.in_default.ensures.steady ∙ begun in
    let opening = c.in_default.ensures.opening ∙ c.abandon-store.ensures.opening in
    let main = (g.D.DiskState.seen c.seal_and_fill.new.store.disk).main in
    ⊎_elim (λ old. inl (subst (λ (o : Opening). FilesStandFor (opening_file o) left) opening old))
    (λ new. inr (new.0, subst (λ (k : ℕ). HasRecords k (loaded c.args.records.now) (recovered left)) c.order-order.ensures.value (has_loaded c.order-order.result c.args.records.now main (recovered left) c.requires.records.0 (c.in_default.ensures.filled begun) new.1)))
    (c.finish-disk.ensures.any_moment still left since)

pub returns-clause-closed : goal.returns-clause-closed
returns-clause-closed g c = λ steady.
    let begun = c.abandon-store.ensures.steady ∙ steady in
    let still = c.in_default.ensures.steady ∙ begun in
    let main = (g.D.DiskState.seen c.seal_and_fill.new.store.disk).main in
    let has = subst (λ (k : ℕ). HasRecords k (loaded c.args.records.now) main) c.order-order.ensures.value (has_loaded c.order-order.result c.args.records.now main main c.requires.records.0 (c.in_default.ensures.filled begun) refl) in
    subst (λ (r : Result (Unit {0}) FileFault). OnOk r (IsKeptWith g.D.DiskState c.args.table.tree.order (loaded c.args.records.now) c.finish-disk.result.0)) (sym c.told.ensures)
    (ok_told c.finish-disk.result.1 _ (kept_loaded g.D.DiskState c.finish-disk.result.1 c.args.table.tree.order (loaded c.args.records.now) main c.finish-disk.result.0 c.finish-disk.ensures.keeps.same has (c.finish-disk.ensures.settled still)))
