use Rattle.std.proofs.Common.{◌≡◌, ◌∙◌, ℕ, [], ◌∷◌, true, Option, IfSome, MatchOption, refl, sym, ap, subst}
use Rattle.rec_types.specs.Table.{counted}
use Rattle.page_store.specs.Guards.{Unsealed}
use Rattle.btree_delete.specs.CleanFile.{is_open_device_fault}
use Rattle.page_journal.specs.LoggedStores.{commits_in}
use Rattle.rec_types.specs.Contents.{Contents}
use Rattle.page_store.specs.Opening.{Opening}
use Rattle.page_journal.specs.Files.{Files, PageFile}
use Rattle.page_journal.specs.KeptStores.{failures_with, opened_over}
use Rattle.file_session.specs.Opened.{IsFirstOrOutside, IsOutsideFile}
use Rattle.recfile.specs.DurableSession.{EndsDurably}
use Rattle.file_session.specs.Beginning.{IsBegunBeside, LeavesUnread}
use Rattle.file_session.specs.FileFaults.{is_file_device}
use Rattle.file_session.specs.Closing.{CountsClosing, LeavesOld, opening_file}
use Rattle.file_session.specs.LogOver.{HoldsWithin, head_line}
use Rattle.file_session.specs.declared.file_fault.FileFault.{FileFault}
use Rattle.file_session.proofs.ClosingCountLemmas.{device_of_opening, disk_counts, some_told, unsealed, unused_guard}
use Rattle.file_session.proofs.OpeningLemmas.{can_be_opened}
use Rattle.recfile.proofs.durable.run_begun.Goals as goal

pub returns-in-Ok-clause-closed : goal.returns-in-Ok-clause-closed
returns-in-Ok-clause-closed g c steady none =
    can_be_opened _ _ c.args.limits.records _ c.in-Ok.table.pages c.in-Ok.table.tree (c.in-Ok.ensures.found steady)

pub returns-in-Ok-clause-session : goal.returns-in-Ok-clause-session
returns-in-Ok-clause-session g c steady order contents holds =
    let d = g.D.DiskState in
    let table = c.in-Ok.table in
    let opened = c.in-Ok.ensures.reopened steady holds.1 contents holds.0 holds.3 holds.4 in
    let order_is : table.tree.order ≡ order = ap (λ t. t.order) opened.0 ∙ holds.2 in
    let file_is : opening_file table.pages.opening ≡ (d.seen c.args.store.disk).main = ap (λ (o : Opening). opening_file o) c.in-Ok.ensures.over.opening ∙ sym (c.requires.begun steady).0 in
    let failures_are : table.pages.failures ≡ d.failures c.args.store.disk = c.in-Ok.ensures.over.failures ∙ ap (failures_with (d.failures c.args.store.disk)) c.requires.unrefused in
    let ends = λ (x : ℕ × Contents × ℕ × PageFile). EndsDurably d c.args.manner (g.R.CountedRead.left c.args.reader.now) (g.R.CountedRead.left c.run_logged.new.reader) (g.W.CountedWrite.held c.args.out.now) (g.W.CountedWrite.held c.run_logged.new.out) c.args.calls.now c.run_logged.new.calls x.0 x.1 c.args.limits x.2 ((head_line x.3 ∷ []) ∷ []) c.run_logged.result.unclosed c.run_logged.result.status c.run_logged.result.flushed c.run_logged.result.disk in
    let within = subst (λ (x : ℕ × Contents × PageFile). HoldsWithin c.args.limits.records x.0 x.1 x.2) (λ i. (sym order_is i, sym opened.1 i, sym file_is i)) holds in
    let session = c.run_logged.ensures.session (c.in-Ok.ensures.over.steady ∙ steady) (c.in-Ok.ensures.uncalled.no_refusals, c.in-Ok.ensures.uncalled.no_damages, c.in-Ok.ensures.uncalled.no_calls) (subst IsBegunBeside (sym c.in-Ok.ensures.over.opening) (c.requires.begun steady).1) within in
    subst (λ (o : Option FileFault). MatchOption o (ends (order, contents, d.failures c.args.store.disk, (d.seen c.args.store.disk).main)) IsOutsideFile) (sym c.run_logged.ensures.opened)
    (subst ends (λ i. (order_is i, opened.1 i, failures_are i, file_is i)) session)

pub returns-in-Ok-clause-device : goal.returns-in-Ok-clause-device
returns-in-Ok-clause-device g c unused =
    subst (λ (o : Option FileFault). IfSome o (λ fault. CountsClosing (g.D.DiskState.failures c.args.store.disk) true (is_file_device fault) (g.D.DiskState.failures c.run_logged.result.disk))) (sym c.run_logged.ensures.opened) tt

pub returns-in-Err-clause-device : goal.returns-in-Err-clause-device
returns-in-Err-clause-device g c unused =
    let d = g.D.DiskState in
    let old = c.args.store in
    let new = c.in-Err.stop.store in
    let fault = c.in-Err.stop.fault in
    let kept = unused_guard old.state old.kept old.refusals unused c.requires.unrefused in
    let guard = c.in-Err.ensures.back.stays.guard in
    let counts = disk_counts old.state new.state old.kept new.kept (d.failures old.disk) old.refusals (d.failures new.disk) new.refusals (is_open_device_fault fault) kept guard c.in-Err.ensures.back.failures in
    let ended = c.end_unread.ensures.failures (unsealed new.state new.kept new.refusals (Unsealed 0) (guard ∙ kept) refl) in
    some_told c.unopened.result.unopened c.from.result (λ f. CountsClosing (d.failures old.disk) true (is_file_device f) (d.failures c.unopened.result.disk)) (ap (λ e. e.unopened) c.unopened.ensures) (record {
      again = ended.0;
      failures = ap (λ e. d.failures e.disk) c.unopened.ensures ∙ ended.1
          ∙ ap (λ n. counted n ended.0) (counts ∙ ap (counted (d.failures old.disk)) (device_of_opening fault) ∙ ap (λ (f : FileFault). counted (d.failures old.disk) (is_file_device f)) (sym c.from.ensures));
      once = λ never. absurd (cc never);
    })

pub returns-in-Ok-clause-untouched : goal.returns-in-Ok-clause-untouched
returns-in-Ok-clause-untouched g c steady =
    let d = g.D.DiskState in
    let store = c.args.store in
    let main = (d.seen store.disk).main in
    subst (λ (o : Option FileFault). IfSome o (λ fault. IsFirstOrOutside main.pages main.tail c.args.limits.records fault × ((f : Files) → d.left_since c.run_logged.result.disk 0 f → LeavesUnread (opened_over (d.began store.disk) store.log (commits_in store.log (d.seen store.disk)) store.doubt) f))) (sym c.run_logged.ensures.opened) tt

pub returns-in-Ok-clause-stopped : goal.returns-in-Ok-clause-stopped
returns-in-Ok-clause-stopped g c steady four =
    subst (λ (f : PageFile). LeavesOld g.D.DiskState f c.run_logged.result.disk) (ap (λ (o : Opening). opening_file o) c.in-Ok.ensures.over.opening ∙ sym (c.requires.begun steady).0) (c.run_logged.ensures.stopped (c.in-Ok.ensures.over.steady ∙ steady) four)
