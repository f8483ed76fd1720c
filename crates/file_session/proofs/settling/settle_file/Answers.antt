use Rattle.std.proofs.Common.{◌≡◌, ◌∙◌, ◌≤◌, ⊎_elim, inl, inr, ℕ, List, false, IfErr, Result, IsTrue, refl, sym, ap, subst}
use Rattle.std.proofs.lemmas.Result.{IfErr-weaker}
use Rattle.std.specs.Result.{is_err}
use Rattle.rec_types.specs.Contents.{Contents}
use Rattle.rec_types.specs.LimitBounds.{Bounds, most_records}
use Rattle.rec_types.specs.Table.{counted}
use Rattle.page_store.specs.Guards.{Unsealed}
use Rattle.page_journal.specs.KeptStores.{failures_with}
use Rattle.btree_delete.specs.CleanFile.{IsFirst, is_open_device_fault}
use Rattle.commit_paper.specs.Text.{units_of}
use Rattle.page_journal.specs.Files.{PageFile, Files, recovered}
use Rattle.page_journal.specs.LoggedStores.{commits_in}
use Rattle.btree_delete.specs.TableView.{IsClosed, table_contents}
use Rattle.file_session.specs.Beside.{IsHeadFault, IsUnput, LeavesEnded}
use Rattle.file_session.specs.FileFaults.{is_file_device, is_device_answer}
use Rattle.file_session.specs.Closing.{CountsClosing, opening_file}
use Rattle.file_session.specs.Settling.{FindsAny}
use Rattle.file_session.specs.LogOver.{Finds, HoldsRecords, IsLogOver, head_line}
use Rattle.file_session.specs.declared.file_fault.FileFault.{FileFault}
use Rattle.file_session.proofs.ClosingCountLemmas.{device_of_opening, disk_counts, unsealed, unused_guard}
use Rattle.file_session.proofs.ClosingLemmas.{ok_wider}
use Rattle.file_session.proofs.OpeningLemmas.{can_be_opened}
use Rattle.file_session.proofs.OverlayFaultLemmas.{unput_part}
use Rattle.file_session.proofs.SettlingLemmas.{IsStop, ended_finds, files_find, found_over, head_first, head_settles, opening_settles, over_found, still_unlogged, unlogged_leaves}
use Rattle.file_session.proofs.settling.settle_file.Given as given
use Rattle.file_session.proofs.settling.settle_file.Goals as goal
use Rattle.file_session.proofs.settling.settle_file.Goals.{After-settle_table}

pub returns-in-Err-clause-kept : goal.returns-in-Err-clause-kept
returns-in-Err-clause-kept g c steady order records finds left since =
    let d = g.D.DiskState in
    let stays = c.head_of.ensures.stays in
    let is = still_unlogged (d.began c.args.store.disk) c.args.store.log (commits_in c.args.store.log (d.seen c.args.store.disk)) c.args.store.doubt stays.opening c.requires.unused.2 in
    files_find order records (d.began c.args.store.disk) left finds (unlogged_leaves (d.began c.args.store.disk) left _ is.0 is.1 is.2 (c.let_go.ensures.old (stays.steady ∙ steady) left since))

pub returns-in-Err-clause-failures : goal.returns-in-Err-clause-failures
returns-in-Err-clause-failures g c =
    let d = g.D.DiskState in
    let old = c.args.store in
    let new = c.head_of.new.store in
    let unused = unused_guard old.state old.kept old.refusals c.requires.unused.0 c.requires.unused.1 in
    let guard = c.head_of.ensures.stays.guard in
    let same = c.let_go.ensures.same (unsealed new.state new.kept new.refusals (Unsealed 0) (guard ∙ unused) refl) in
    subst (λ (r : Result (Unit {0}) FileFault). CountsClosing (d.failures old.disk) (is_err r) (is_device_answer r) (d.failures c.let_go.result.0)) (sym c.let_go.ensures.fault) (record {
      again = false;
      failures = ap d.failures same ∙ disk_counts old.state new.state old.kept new.kept (d.failures old.disk) old.refusals (d.failures new.disk) new.refusals (is_file_device c.in-Err.fault) unused guard c.in-Err.ensures.failures;
      once = λ ok. refl;
    })

pub returns-clause-failures : goal.returns-clause-failures
returns-clause-failures g c =
    let d = g.D.DiskState in
    let old = c.args.store in
    let mid = c.head_of.new.store in
    let new = c.in-Err-open_from.stop.store in
    let fault = c.in-Err-open_from.stop.fault in
    let unused = unused_guard old.state old.kept old.refusals c.requires.unused.0 c.requires.unused.1 in
    let still = c.head_of.ensures.stays.guard ∙ unused in
    let guard = c.in-Err-open_from.ensures.back.stays.guard in
    let same = c.let_go-in-Err-open_from.ensures.same (unsealed new.state new.kept new.refusals (Unsealed 0) (guard ∙ still) refl) in
    let before = disk_counts old.state mid.state old.kept mid.kept (d.failures old.disk) old.refusals (d.failures mid.disk) mid.refusals false unused c.head_of.ensures.stays.guard c.in-Ok.ensures.failures in
    let after = disk_counts mid.state new.state mid.kept new.kept (d.failures mid.disk) mid.refusals (d.failures new.disk) new.refusals (is_open_device_fault fault) still guard c.in-Err-open_from.ensures.back.failures in
    subst (λ (r : Result (Unit {0}) FileFault). CountsClosing (d.failures old.disk) (is_err r) (is_device_answer r) (d.failures c.let_go-in-Err-open_from.result.0)) (sym c.let_go-in-Err-open_from.ensures.fault) (record {
      again = false;
      failures = ap d.failures same ∙ after ∙ (λ i. counted (before i) (device_of_opening fault i)) ∙ ap (λ (f : FileFault). counted (d.failures old.disk) (is_file_device f)) (sym c.from.ensures);
      once = λ ok. refl;
    })

pub returns-in-Err-clause-fault : goal.returns-in-Err-clause-fault
returns-in-Err-clause-fault g c steady =
    let file = g.D.DiskState.began c.args.store.disk in
    let why = subst (λ (f : PageFile). IsHeadFault f.pages f.tail c.in-Err.fault) (c.requires.file steady).1 (c.in-Err.ensures.fault steady) in
    subst (λ (r : Result (Unit {0}) FileFault). IfErr r (IsStop file)) (sym c.let_go.ensures.fault) (
      inl (head_first (recovered file).pages (recovered file).tail most_records c.in-Err.fault why),
      λ any. head_settles c.in-Err.fault any.0 any.2.under (recovered file) any.2.holds why,
    )

pub returns-clause-fault : goal.returns-clause-fault
returns-clause-fault g c steady =
    let d = g.D.DiskState in
    let file = d.began c.args.store.disk in
    let stays = c.head_of.ensures.stays in
    let stop = c.in-Err-open_from.stop in
    let main : (d.seen c.head_of.new.store.disk).main ≡ recovered file = (λ i. record { pages = stays.pages i; tail = stays.tail i }) ∙ (c.requires.file steady).1 in
    let first = subst (λ (n : ℕ). IsFirst (recovered file).pages (recovered file).tail n stop.fault) (ap (λ (b : Bounds). b.records) c.greatest_limits.ensures)
    (subst (λ (f : PageFile). IsFirst f.pages f.tail c.greatest_limits.result.records stop.fault) main (c.in-Err-open_from.ensures.fault (stays.steady ∙ steady))) in
    subst (λ (r : Result (Unit {0}) FileFault). IfErr r (IsStop file)) (sym c.let_go-in-Err-open_from.ensures.fault) (
      inl (inr (stop.fault, first, c.from.ensures)),
      λ any.
          let holds = any.2.holds in
          opening_settles stop.fault c.from.result c.from.ensures
          (c.in-Err-open_from.ensures.reopened (stays.steady ∙ steady) holds.1 any.2.under holds.0
          (subst (λ (f : PageFile). IsClosed holds.0 f.pages f.tail holds.1 any.2.under) (sym main) holds.3)
          (subst (λ (n : ℕ). holds.1.count ≤ n) (sym (ap (λ (b : Bounds). b.records) c.greatest_limits.ensures)) holds.4)),
    )

-- the table that was opened, over the file of the store
module _ (g : given.Over) (c : After-settle_table g) (steady : IsTrue (g.D.DiskState.steady c.args.store.disk)) where
  abbrev began : Files
  began = g.D.DiskState.began c.args.store.disk

  table_steady : IsTrue c.in-Ok-open_from.table.pages.steady
  table_steady = c.in-Ok-open_from.ensures.over.steady ∙ c.head_of.ensures.stays.steady ∙ steady

  store_steady : IsTrue (g.D.DiskState.steady c.head_of.new.store.disk)
  store_steady = c.head_of.ensures.stays.steady ∙ steady

  main : (g.D.DiskState.seen c.head_of.new.store.disk).main ≡ recovered began
  main = (λ i. record { pages = c.head_of.ensures.stays.pages i; tail = c.head_of.ensures.stays.tail i }) ∙ (c.requires.file steady).1

  opening : (opening_file c.in-Ok-open_from.table.pages.opening ≡ recovered began) × (c.in-Ok-open_from.table.pages.opening.log ≡ began.commits.log) × (c.in-Ok-open_from.table.pages.opening.logged ≡ false)
  opening = still_unlogged began c.args.store.log (commits_in c.args.store.log (g.D.DiskState.seen c.args.store.disk)) c.args.store.doubt (c.in-Ok-open_from.ensures.over.opening ∙ c.head_of.ensures.stays.opening) c.requires.unused.2

  head : c.deref.result.now ≡ head_line (recovered began)
  head = c.deref.ensures.value ∙ c.in-Ok.ensures.head steady ∙ ap head_line (c.requires.file steady).1

  abbrev bytes : List ℕ
  bytes = (c.requires.text steady).0

  -- what is found in the file is what the table has
  found : (order : ℕ) (under : Contents) → HoldsRecords order under (recovered began) → (c.in-Ok-open_from.table.tree.order ≡ order) × (table_contents c.in-Ok-open_from.table ≡ under)
  found order under holds =
      let there = subst (λ (f : PageFile). IsClosed holds.0 f.pages f.tail holds.1 under) (sym main) holds.3 in
      let opened = c.in-Ok-open_from.ensures.reopened store_steady holds.1 under holds.0 there (subst (λ (n : ℕ). holds.1.count ≤ n) (sym (ap (λ (b : Bounds). b.records) c.greatest_limits.ensures)) holds.4) in
      (ap (λ t. t.order) opened.0 ∙ holds.2, opened.1)

  over : (order : ℕ) (records : Contents) (finds : Finds order records began) → IsLogOver c.deref.result.now (table_contents c.in-Ok-open_from.table) records (units_of bytes)
  over order records finds =
      subst (λ (h : List ℕ). IsLogOver h (table_contents c.in-Ok-open_from.table) records (units_of bytes)) (sym head)
      (subst (λ (m : Contents). IsLogOver (head_line (recovered began)) m records (units_of bytes)) (sym (found order finds.under finds.holds).1) (found_over (head_line (recovered began)) finds.under records began.commits.log bytes (c.requires.text steady).1 finds.log))

  -- the records that it has are those of the file
  holds : HoldsRecords c.in-Ok-open_from.table.tree.order (table_contents c.in-Ok-open_from.table) (recovered began)
  holds =
      let can = can_be_opened _ _ c.greatest_limits.result.records _ c.in-Ok-open_from.table.pages c.in-Ok-open_from.table.tree (c.in-Ok-open_from.ensures.found store_steady) in
      let opened = c.in-Ok-open_from.ensures.reopened store_steady can.0 can.1 can.2 can.3 can.4 in
      subst (λ (f : PageFile). HoldsRecords c.in-Ok-open_from.table.tree.order (table_contents c.in-Ok-open_from.table) f) main
      (can.2, can.0, ap (λ t. t.order) (sym opened.0), subst (λ (m : Contents). IsClosed can.2 (g.D.DiskState.seen c.head_of.new.store.disk).main.pages (g.D.DiskState.seen c.head_of.new.store.disk).main.tail can.0 m) (sym opened.1) can.3, subst (λ (n : ℕ). can.0.count ≤ n) (ap (λ (b : Bounds). b.records) c.greatest_limits.ensures) can.4)

  -- a log over it makes records that an opening finds
  finds : (records : Contents) → IsLogOver c.deref.result.now (table_contents c.in-Ok-open_from.table) records (units_of bytes) → Finds c.in-Ok-open_from.table.tree.order records began
  finds records made = record {
    belongs = (c.requires.file steady).0;
    under = table_contents c.in-Ok-open_from.table;
    holds = holds;
    log = over_found (head_line (recovered began)) (table_contents c.in-Ok-open_from.table) records began.commits.log bytes (c.requires.text steady).1
        (subst (λ (h : List ℕ). IsLogOver h (table_contents c.in-Ok-open_from.table) records (units_of bytes)) head made);
  }

pub returns-in-Ok-open_from-clause-over : goal.returns-in-Ok-open_from-clause-over
returns-in-Ok-open_from-clause-over g c steady =
    let here = (goal.at.returns-in-Ok-open_from-clause-over g c).After-settle_table in
    let text = c.requires.text steady in
    ok_wider c.settle_table.result.1 _ _
    (λ made. (
      c.in-Ok-open_from.table.tree.order,
      made.0,
      finds g here steady made.0 made.1,
      made.2,
    ))
    (c.settle_table.ensures.over (table_steady g here steady) (units_of text.0) text.2.1 text.2.0)

pub returns-in-Ok-open_from-clause-kept : goal.returns-in-Ok-open_from-clause-kept
returns-in-Ok-open_from-clause-kept g c steady order records finds left since =
    let here = (goal.at.returns-in-Ok-open_from-clause-kept g c).After-settle_table in
    let text = c.requires.text steady in
    let is = opening g here steady in
    let ended = c.settle_table.ensures.any_moment (table_steady g here steady) (units_of text.0) text.2.1 text.2.0 records (over g here steady order records finds) left since in
    ended_finds order records (began g here steady) left c.in-Ok-open_from.table.pages.opening text.0 is.0 is.1 is.2 text.1 finds (subst (λ (n : ℕ). LeavesEnded c.in-Ok-open_from.table.pages.opening n records left) (found g here steady order finds.under finds.holds).0 ended)

pub returns-in-Ok-open_from-clause-fault : goal.returns-in-Ok-open_from-clause-fault
returns-in-Ok-open_from-clause-fault g c steady =
    let here = (goal.at.returns-in-Ok-open_from-clause-fault g c).After-settle_table in
    let text = c.requires.text steady in
    let file = began g here steady in
    let held = holds g here steady in
    let Over = (records : Contents) × IsLogOver c.deref.result.now (table_contents c.in-Ok-open_from.table) records (units_of text.0) in
    IfErr-weaker c.settle_table.result.1 (IsUnput Over) (IsStop file)
    (λ fault why.
    let unput = unput_part Over (FindsAny file) fault (λ any. (any.1, over g here steady any.0 any.1 any.2)) why in (
      inr ((held.1, table_contents c.in-Ok-open_from.table, held.0, held.3, held.4), unput),
      λ any. ⊎_elim (λ settling. settling) (λ log. absurd (log.1 any)) unput,
    ))
    (c.settle_table.ensures.fault (table_steady g here steady) (units_of text.0) text.2.1 text.2.0)

pub returns-in-Ok-open_from-clause-failures : goal.returns-in-Ok-open_from-clause-failures
returns-in-Ok-open_from-clause-failures g c =
    let d = g.D.DiskState in
    let old = c.args.store in
    let mid = c.head_of.new.store in
    let unused = unused_guard old.state old.kept old.refusals c.requires.unused.0 c.requires.unused.1 in
    let guard = c.head_of.ensures.stays.guard in
    let first : failures_with (d.failures old.disk) old.refusals ≡ d.failures old.disk = ap (failures_with (d.failures old.disk)) c.requires.unused.1 in
    subst (λ n. CountsClosing n (is_err c.settle_table.result.1) (is_device_answer c.settle_table.result.1) (d.failures c.settle_table.result.0))
    (c.in-Ok-open_from.ensures.over.failures ∙ c.in-Ok.ensures.failures ∙ first)
    (c.settle_table.ensures.failures (c.in-Ok-open_from.ensures.over.guard ∙ guard ∙ unused) c.in-Ok-open_from.ensures.no_tail)

pub returns-clause-kept : goal.returns-clause-kept
returns-clause-kept g c steady order records finds left since =
    let d = g.D.DiskState in
    let stays = c.head_of.ensures.stays in
    let stop = c.in-Err-open_from.ensures.back.stays in
    let is = still_unlogged (d.began c.args.store.disk) c.args.store.log (commits_in c.args.store.log (d.seen c.args.store.disk)) c.args.store.doubt (stop.opening ∙ stays.opening) c.requires.unused.2 in
    files_find order records (d.began c.args.store.disk) left finds (unlogged_leaves (d.began c.args.store.disk) left _ is.0 is.1 is.2 (c.let_go-in-Err-open_from.ensures.old (stop.steady ∙ stays.steady ∙ steady) left since))

pub returns-in-Err-clause-unfound : goal.returns-in-Err-clause-unfound
returns-in-Err-clause-unfound g c steady none left since =
    let d = g.D.DiskState in
    let stays = c.head_of.ensures.stays in
    let is = still_unlogged (d.began c.args.store.disk) c.args.store.log (commits_in c.args.store.log (d.seen c.args.store.disk)) c.args.store.doubt stays.opening c.requires.unused.2 in
    unlogged_leaves (d.began c.args.store.disk) left _ is.0 is.1 is.2 (c.let_go.ensures.old (stays.steady ∙ steady) left since)

pub returns-clause-unfound : goal.returns-clause-unfound
returns-clause-unfound g c steady none left since =
    let d = g.D.DiskState in
    let stays = c.head_of.ensures.stays in
    let stop = c.in-Err-open_from.ensures.back.stays in
    let is = still_unlogged (d.began c.args.store.disk) c.args.store.log (commits_in c.args.store.log (d.seen c.args.store.disk)) c.args.store.doubt (stop.opening ∙ stays.opening) c.requires.unused.2 in
    unlogged_leaves (d.began c.args.store.disk) left _ is.0 is.1 is.2 (c.let_go-in-Err-open_from.ensures.old (stop.steady ∙ stays.steady ∙ steady) left since)

pub returns-in-Ok-open_from-clause-unfound : goal.returns-in-Ok-open_from-clause-unfound
returns-in-Ok-open_from-clause-unfound g c steady none left since =
    let here = (goal.at.returns-in-Ok-open_from-clause-unfound g c).After-settle_table in
    let text = c.requires.text steady in
    let is = opening g here steady in
    unlogged_leaves (began g here steady) left c.in-Ok-open_from.table.pages.opening is.0 is.1 is.2
    (c.settle_table.ensures.unput (table_steady g here steady) (units_of text.0) text.2.1 text.2.0
    (λ records over. none (c.in-Ok-open_from.table.tree.order, records, finds g here steady records over))
    left since)
