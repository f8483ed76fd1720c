use Rattle.std.proofs.Common.{◌≡◌, ◌≤◌, false, Result, Ok, Err, OnOk, ⊎_elim, inl, inr, IsTrue, refl, sym, ap, subst, ◌∙◌}
use Rattle.page_store.specs.Opening.{Opening}
use Rattle.page_journal.specs.Crash.{FilesStandFor}
use Rattle.btree_delete.specs.TableView.{TableView, table_contents}
use Rattle.rec_types.specs.Table.{counted}
use Rattle.page_store.specs.Guards.{Unsealed}
use Rattle.page_store.specs.declared.page_edit.WriteFault.{WriteFault}
use Rattle.file_session.specs.FileFaults.{is_file_device, is_device_answer}
use Rattle.file_session.specs.Closing.{IsKeptWith, opening_file, refused_calls}
use Rattle.file_session.specs.declared.file_fault.FileFault.{FileFault}
use Rattle.file_session.proofs.ClosingCountLemmas.{by_change, device_of_closing, device_of_sealing, device_of_store, is_stopped, moments_told, not_stopped, ok_told, seal_goes_on, seal_refuses, seal_seals, sealed_state, unrefused}
use Rattle.page_journal.specs.LoggedStores.{commits_in}
use Rattle.file_session.specs.Beside.{FindsEach, FindsWhole, HoldsWhole, LeavesEitherBeside}
use Rattle.file_session.proofs.ClosingLemmas.{has_records, holds_records, kept_so, ok_wider}
use Rattle.file_session.proofs.SettlingLemmas.{each_found, some_found, whole_found}
use Rattle.file_session.proofs.closing.close_table.Given as given
use Rattle.file_session.proofs.closing.close_table.Goals as goal
use Rattle.file_session.proofs.closing.close_table.Goals.{In_default}

pub returns-in-Ok-clause-any_moment : goal.returns-in-Ok-clause-any_moment
returns-in-Ok-clause-any_moment g c steady left since =
    let sealed : IsTrue c.seal.new.self.pages.steady = ap (λ (t : TableView). t.pages.steady) c.seal.ensures.same ∙ steady in
    let opening = c.in-Ok.ensures.store.opening ∙ ap (λ (t : TableView). t.pages.opening) c.seal.ensures.same in
    ⊎_elim (λ old. inl (subst (λ (o : Opening). FilesStandFor (opening_file o) left) opening old))
    (λ new. inr (new.0, has_records c.seal.new.self c.args.table (g.D.DiskState.seen c.in-Ok.store.disk).main _ (ap (λ (t : TableView). t.tree.order) c.seal.ensures.same) (ap table_contents c.seal.ensures.same) new.1 (c.in-Ok.ensures.closed sealed)))
    (c.finish-disk.ensures.any_moment (c.in-Ok.ensures.store.steady ∙ sealed) left since)

pub returns-in-Ok-clause-closed : goal.returns-in-Ok-clause-closed
returns-in-Ok-clause-closed g c steady =
    let sealed : IsTrue c.seal.new.self.pages.steady = ap (λ (t : TableView). t.pages.steady) c.seal.ensures.same ∙ steady in
    subst (λ (r : Result (Unit {0}) FileFault). OnOk r (IsKeptWith g.D.DiskState c.args.table.tree.order (table_contents c.args.table) c.finish-disk.result.0)) (sym c.told.ensures)
    (ok_told c.finish-disk.result.1 _ (kept_so g.D.DiskState c.finish-disk.result.1 c.seal.new.self c.args.table (g.D.DiskState.seen c.in-Ok.store.disk).main c.finish-disk.result.0 (ap (λ (t : TableView). t.tree.order) c.seal.ensures.same) (ap table_contents c.seal.ensures.same) c.finish-disk.ensures.keeps.same (c.in-Ok.ensures.closed sealed) (c.finish-disk.ensures.settled (c.in-Ok.ensures.store.steady ∙ sealed))))

-- the pages that the closing writes over were kept, or none was changed; no call was refused
module _ (g : given.Over) (c : In_default g) where
  none : c.args.table.pages.guard ≡ Unsealed 0 → c.args.table.pages.tail ≡ 0 → refused_calls c.seal.new.self.pages.guard ≡ 0
  none unsealed tail = by_change c.args.table.pages.changed
      (λ changed. seal_refuses WriteFault _ _ c.args.table.pages.guard (Ok c.in_default.field-0) c.seal.new.self.pages.guard unsealed (c.in_default.ensures.guard changed tail))
      (λ idle. ap refused_calls ((c.in_default.ensures.idle idle).1 ∙ unsealed))

  going : c.args.table.pages.guard ≡ Unsealed 0 → c.args.table.pages.tail ≡ 0 → is_stopped c.seal.new.self.pages.guard ≡ false
  going unsealed tail = by_change c.args.table.pages.changed
      (λ changed. seal_goes_on WriteFault _ _ c.args.table.pages.guard c.seal.new.self.pages.guard unsealed (c.in_default.ensures.guard changed tail))
      (λ idle. ap is_stopped ((c.in_default.ensures.idle idle).1 ∙ unsealed))

pub returns-in-Ok-clause-called : goal.returns-in-Ok-clause-called
returns-in-Ok-clause-called g c unsealed tail changed =
    let store = c.in-Ok.store in
    let new = c.seal.new.self.pages.guard in
    let guard = c.in-Ok.ensures.allowed (c.in_default.ensures.allowed 0 unsealed tail) in
    let sealed = seal_seals WriteFault _ _ c.args.table.pages.guard new unsealed (c.in_default.ensures.guard changed tail) in
    let moments = moments_told c.finish-disk.result.1 (g.D.DiskState.moment store.disk) (g.D.DiskState.moment c.finish-disk.result.0) (c.finish-disk.ensures.finished.moments (sealed_state store.state store.kept store.refusals new guard sealed)) in
    subst (λ (r : Result (Unit {0}) FileFault). OnOk r (3 ≤ g.D.DiskState.moment c.finish-disk.result.0)) (sym c.told.ensures) (ok_told c.finish-disk.result.1 (3 ≤ g.D.DiskState.moment c.finish-disk.result.0) moments)

pub returns-in-Ok-clause-device : goal.returns-in-Ok-clause-device
returns-in-Ok-clause-device g c unsealed tail =
    let place = (goal.at.returns-in-Ok-clause-device g c).In_default in
    let old = c.args.table.pages in
    let new = c.seal.new.self.pages in
    let store = c.in-Ok.store in
    let guard = c.in-Ok.ensures.allowed (c.in_default.ensures.allowed 0 unsealed tail) in
    let same = unrefused store.state store.kept (g.D.DiskState.failures store.disk) store.refusals new.failures new.guard guard (none g place unsealed tail) c.in-Ok.ensures.store.failures in
    record {
      again = false;
      failures = c.finish-disk.ensures.finished.failures (not_stopped store.state store.kept store.refusals new.guard guard (going g place unsealed tail))
          ∙ (λ i. counted ((same ∙ c.in_default.ensures.device) i) (device_of_store c.finish-disk.result.1 i))
          ∙ ap (λ (r : Result (Unit {0}) FileFault). counted old.failures (is_device_answer r)) (sym c.told.ensures);
      once = λ ok. refl;
    }

pub returns-in-Err-clause-device : goal.returns-in-Err-clause-device
returns-in-Err-clause-device g c unsealed tail =
    let old = c.args.table.pages in
    let fault = c.in-Err.fault in
    let left : refused_calls c.seal.new.self.pages.guard ≡ 0 = by_change old.changed
    (λ changed. seal_refuses WriteFault _ _ old.guard (Err fault) c.seal.new.self.pages.guard unsealed (c.in-Err.ensures.guard changed tail))
    (λ idle. absurd (cc (c.in-Err.ensures.idle idle).0)) in
    let given_back = c.give_back.ensures.device left in
    record {
      again = given_back.0;
      failures = given_back.1 ∙ ap (λ n. counted n given_back.0)
          (c.in-Err.ensures.device ∙ ap (counted old.failures) (device_of_sealing fault) ∙ ap (λ (f : FileFault). counted old.failures (is_file_device f)) (sym c.from.ensures));
      once = λ never. absurd (cc never);
    }

pub returns-in-Err-close-clause-device : goal.returns-in-Err-close-clause-device
returns-in-Err-close-clause-device g c unsealed tail =
    let place = (goal.at.returns-in-Err-close-clause-device g c).In_default in
    let old = c.args.table.pages in
    let new = c.seal.new.self.pages in
    let stop = c.in-Err-close.stop in
    let left = ap refused_calls (c.in-Err-close.ensures.allowed (c.in_default.ensures.allowed 0 unsealed tail)) ∙ none g place unsealed tail in
    let given_back = c.give_back-in-Err-close.ensures.device left in
    record {
      again = given_back.0;
      failures = given_back.1 ∙ ap (λ n. counted n given_back.0)
          (c.in-Err-close.ensures.fault.device ∙ (λ i. counted (c.in_default.ensures.device i) (device_of_closing stop.fault i)) ∙ ap (λ (f : FileFault). counted old.failures (is_file_device f)) (sym c.from-in-Err-close.ensures));
      once = λ never. absurd (cc never);
    }

pub returns-in-Ok-clause-commits : goal.returns-in-Ok-clause-commits
returns-in-Ok-clause-commits g c steady left since =
    let d = g.D.DiskState in
    let store = c.in-Ok.store in
    let sealed : IsTrue c.seal.new.self.pages.steady = ap (λ (t : TableView). t.pages.steady) c.seal.ensures.same ∙ steady in
    let opening = c.in-Ok.ensures.store.opening ∙ ap (λ (t : TableView). t.pages.opening) c.seal.ensures.same in
    let order = ap (λ (t : TableView). t.tree.order) c.seal.ensures.same in
    let contents = ap table_contents c.seal.ensures.same in
    subst (λ (o : Opening). LeavesEitherBeside o c.args.table.tree.order (table_contents c.args.table) left) opening
    (⊎_elim
    (λ old. inl (old.0, some_found store.log (d.began store.disk) (commits_in store.log (d.seen store.disk)) store.doubt left old.1))
    (λ new. inr (new.0.0, holds_records c.seal.new.self c.args.table (d.seen store.disk).main _ order contents new.0.1 (c.in-Ok.ensures.closed sealed) (c.in-Ok.ensures.count sealed), whole_found store.log (d.began store.disk) (commits_in store.log (d.seen store.disk)) left new.1))
    (c.finish-disk.ensures.commits (c.in-Ok.ensures.store.steady ∙ sealed) left since))

pub returns-in-Ok-clause-whole : goal.returns-in-Ok-clause-whole
returns-in-Ok-clause-whole g c steady =
    let d = g.D.DiskState in
    let store = c.in-Ok.store in
    let sealed : IsTrue c.seal.new.self.pages.steady = ap (λ (t : TableView). t.pages.steady) c.seal.ensures.same ∙ steady in
    let opening = c.in-Ok.ensures.store.opening ∙ ap (λ (t : TableView). t.pages.opening) c.seal.ensures.same in
    let order = ap (λ (t : TableView). t.tree.order) c.seal.ensures.same in
    let contents = ap table_contents c.seal.ensures.same in
    let holds = holds_records c.seal.new.self c.args.table (d.seen store.disk).main (d.seen c.finish-disk.result.0).main order contents c.finish-disk.ensures.keeps.same (c.in-Ok.ensures.closed sealed) (c.in-Ok.ensures.count sealed) in
    subst (λ (r : Result (Unit {0}) FileFault). OnOk r (HoldsWhole d c.args.table.pages.opening c.args.table.tree.order (table_contents c.args.table) c.finish-disk.result.0)) (sym c.told.ensures)
    (ok_told c.finish-disk.result.1 _ (ok_wider c.finish-disk.result.1 _ _ (λ all. record {
      holds = holds;
      whole = λ left now. subst (λ (p : Opening). FindsWhole p.logged p.log p.commits left) opening (whole_found store.log (d.began store.disk) (commits_in store.log (d.seen store.disk)) left (all left now));
    }) (c.finish-disk.ensures.all (c.finish-disk.ensures.alone (c.in-Ok.ensures.store.steady ∙ sealed)))))

pub returns-in-Ok-clause-lasts : goal.returns-in-Ok-clause-lasts
returns-in-Ok-clause-lasts g c steady left now =
    let d = g.D.DiskState in
    let store = c.in-Ok.store in
    let sealed : IsTrue c.seal.new.self.pages.steady = ap (λ (t : TableView). t.pages.steady) c.seal.ensures.same ∙ steady in
    let opening = c.in-Ok.ensures.store.opening ∙ ap (λ (t : TableView). t.pages.opening) c.seal.ensures.same in
    subst (λ (o : Opening). FindsEach o.logged o.log o.commits o.doubt left) opening
    (each_found store.log (d.began store.disk) (commits_in store.log (d.seen store.disk)) store.doubt left (c.finish-disk.ensures.now (c.finish-disk.ensures.alone (c.in-Ok.ensures.store.steady ∙ sealed)) left now))
