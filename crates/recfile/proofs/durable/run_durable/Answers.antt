use Rattle.std.proofs.Common.{◌≡◌, ◌∙◌, ℕ, true, false, [], ◌∷◌, Option, Some, None, IfSome, MatchOption, IsTrue, inl, inr, sym, ap, subst}
use Rattle.rec_types.specs.Table.{counted}
use Rattle.page_journal.specs.Crash.{FilesStandFor}
use Rattle.page_journal.specs.declared.disk_state.DiskState.{Ghosts}
use Rattle.page_journal.specs.Files.{PageFile, Files, recovered}
use Rattle.page_journal.specs.KeptStores.{opened_over}
use Rattle.page_journal.specs.Logging.{SaysNoneOr}
use Rattle.page_journal.specs.LoggedStores.{commits_in}
use Rattle.file_session.specs.Beside.{IsHeadFault}
use Rattle.file_session.specs.Opened.{CanBeOpened, IsFirstOrOutside, IsOutsideFile}
use Rattle.recfile.specs.DurableSession.{EndsDurably}
use Rattle.file_session.specs.Beginning.{LeavesUnread, StandsUnbegun}
use Rattle.file_session.specs.FileFaults.{is_file_device}
use Rattle.file_session.specs.Closing.{CountsClosing, IsOutsideDisk, IsUnopened, LeavesOld}
use Rattle.file_session.specs.LogOver.{HoldsWithin, head_line}
use Rattle.file_session.specs.declared.file_fault.FileFault.{FileFault}
use Rattle.file_session.proofs.ClosingCountLemmas.{device_of_recovery, some_told}
use Rattle.recfile.proofs.DurableLemmas.{begun_unread}
use Rattle.recfile.proofs.KeptLemmas.{wider}
use Rattle.file_session.proofs.SettlingLemmas.{head_first}
use Rattle.recfile.proofs.durable.run_durable.Given as given
use Rattle.recfile.proofs.durable.run_durable.Goals as goal
use Rattle.recfile.proofs.durable.run_durable.Goals.{After-run_begun}

some_wider : {A : Type 0} (o : Option A) (P Q : A → Type 0) → ((x : A) → P x → Q x) → IfSome o P → IfSome o Q
some_wider None P Q more known = tt
some_wider (Some x) P Q more known = more x known

-- the store beside which a log was begun, over the disk that was opened
module _ (g : given.Over) (c : After-run_begun g) (steady : IsTrue (g.D.DiskState.steady c.args.disk)) where
  still : IsTrue (g.D.DiskState.steady c.in-Ok-begin_beside.store.disk)
  still = c.in-Ok-begin_beside.ensures.stored.0 ∙ c.in-Ok.ensures.steady ∙ steady

  main : (g.D.DiskState.seen c.in-Ok-begin_beside.store.disk).main ≡ recovered (g.D.DiskState.began c.args.disk)
  main = c.in-Ok-begin_beside.ensures.stored.3 ∙ (c.in-Ok.ensures.file steady).1

pub returns-in-Ok-begin_beside-clause-opens : goal.returns-in-Ok-begin_beside-clause-opens
returns-in-Ok-begin_beside-clause-opens g c steady none =
    let here = (goal.at.returns-in-Ok-begin_beside-clause-opens g c).After-run_begun in (
      (c.in-Ok.ensures.file steady).0,
      subst (λ (f : PageFile). CanBeOpened f.pages f.tail c.args.limits.records) (main g here steady) (c.run_begun.ensures.closed (still g here steady) none),
    )

pub run_begun-requires-clause-begun : goal.run_begun-requires-clause-begun
run_begun-requires-clause-begun g c steady =
    let began = c.in-Ok-begin_beside.ensures.stored.0 in
    let was = sym began ∙ steady in
    (c.in-Ok-begin_beside.ensures.stored.3 ∙ (c.in-Ok.ensures.file (sym c.in-Ok.ensures.steady ∙ was)).1 ∙ ap recovered (sym c.in-Ok.ensures.began) ∙ sym c.in-Ok-begin_beside.ensures.opening, c.in-Ok-begin_beside.ensures.begun was)

pub returns-in-Ok-begin_beside-clause-first : goal.returns-in-Ok-begin_beside-clause-first
returns-in-Ok-begin_beside-clause-first g c steady =
    let here = (goal.at.returns-in-Ok-begin_beside-clause-first g c).After-run_begun in
    let d = g.D.DiskState in
    let files = d.began c.args.disk in
    let store = c.in-Ok-begin_beside.store in
    let found = (d.seen store.disk).main in
    some_wider c.run_begun.result.unopened
    (λ fault. IsFirstOrOutside found.pages found.tail c.args.limits.records fault × ((f : Files) → d.left_since c.run_begun.result.disk 0 f → LeavesUnread (opened_over (d.began store.disk) store.log (commits_in store.log (d.seen store.disk)) store.doubt) f))
    (IsUnopened files c.args.limits.records)
    (λ fault left. inr (subst (λ (f : PageFile). IsFirstOrOutside f.pages f.tail c.args.limits.records fault) (main g here steady) left.0))
    (c.run_begun.ensures.untouched (still g here steady))

pub returns-in-Ok-begin_beside-clause-stopped : goal.returns-in-Ok-begin_beside-clause-stopped
returns-in-Ok-begin_beside-clause-stopped g c steady four =
    let here = (goal.at.returns-in-Ok-begin_beside-clause-stopped g c).After-run_begun in
    subst (λ (f : PageFile). LeavesOld g.D.DiskState f c.run_begun.result.disk) (main g here steady) (c.run_begun.ensures.stopped (still g here steady) four)

pub returns-in-Ok-begin_beside-clause-device : goal.returns-in-Ok-begin_beside-clause-device
returns-in-Ok-begin_beside-clause-device g c =
    subst (λ n. IfSome c.run_begun.result.unopened (λ (fault : FileFault). CountsClosing n true (is_file_device fault) (g.D.DiskState.failures c.run_begun.result.disk))) (c.in-Ok-begin_beside.ensures.stored.4 ∙ c.in-Ok.ensures.failures) (c.run_begun.ensures.device c.in-Ok-begin_beside.ensures.stored.1)

-- a file that wasn't opened wasn't
never_opened : {A : Type 0} {B : Type 0} (end : Option A) (fault : A) → end ≡ Some fault → end ≡ None → B
never_opened end fault some none = absurd (let same = sym some ∙ none in cc)

pub returns-in-Err-clause-steady : goal.returns-in-Err-clause-steady
returns-in-Err-clause-steady g c = never_opened c.unopened.result.unopened c.from.result (ap (λ e. e.unopened) c.unopened.ensures)

pub returns-in-Err-begin_beside-clause-steady : goal.returns-in-Err-begin_beside-clause-steady
returns-in-Err-begin_beside-clause-steady g c = never_opened c.unopened-in-Err-begin_beside.result.unopened c.in-Err-begin_beside.fault (ap (λ e. e.unopened) c.unopened-in-Err-begin_beside.ensures)

-- no log was begun, and the disk is as it was
unbegun_counts : {D : Type 0} (d : Ghosts D) (before : ℕ) (end : Option FileFault) (fault : FileFault) (disk : D) → end ≡ Some fault → d.failures disk ≡ counted before (is_file_device fault) → IfSome end (λ f. CountsClosing before true (is_file_device f) (d.failures disk))
unbegun_counts d before end fault disk is counts = some_told end fault (λ f. CountsClosing before true (is_file_device f) (d.failures disk)) is (record { again = false; failures = counts; once = λ never. absurd (cc never) })

pub returns-in-Err-clause-device : goal.returns-in-Err-clause-device
returns-in-Err-clause-device g c =
    let d = g.D.DiskState in
    let before = d.failures c.args.disk in
    unbegun_counts d before c.unopened.result.unopened c.from.result c.unopened.result.disk (ap (λ e. e.unopened) c.unopened.ensures)
    (ap (λ e. d.failures e.disk) c.unopened.ensures ∙ c.in-Err.ensures.device ∙ ap (counted before) (device_of_recovery c.in-Err.fault) ∙ ap (λ (f : FileFault). counted before (is_file_device f)) (sym c.from.ensures))

pub returns-in-Err-begin_beside-clause-device : goal.returns-in-Err-begin_beside-clause-device
returns-in-Err-begin_beside-clause-device g c =
    let d = g.D.DiskState in
    let before = d.failures c.args.disk in
    let fault = c.in-Err-begin_beside.fault in
    unbegun_counts d before c.unopened-in-Err-begin_beside.result.unopened fault c.unopened-in-Err-begin_beside.result.disk (ap (λ e. e.unopened) c.unopened-in-Err-begin_beside.ensures)
    (ap (λ e. d.failures e.disk) c.unopened-in-Err-begin_beside.ensures ∙ c.in-Err-begin_beside.ensures.device ∙ ap (λ n. counted n (is_file_device fault)) c.in-Ok.ensures.failures)

pub returns-in-Ok-begin_beside-clause-untouched : goal.returns-in-Ok-begin_beside-clause-untouched
returns-in-Ok-begin_beside-clause-untouched g c steady =
    let here = (goal.at.returns-in-Ok-begin_beside-clause-untouched g c).After-run_begun in
    let d = g.D.DiskState in
    let store = c.in-Ok-begin_beside.store in
    let opened = opened_over (d.began store.disk) store.log (commits_in store.log (d.seen store.disk)) store.doubt in
    let file = c.in-Ok-begin_beside.ensures.opening ∙ ap recovered c.in-Ok.ensures.began in
    let first = (d.seen store.disk).main in
    some_wider c.run_begun.result.unopened (λ fault. IsFirstOrOutside first.pages first.tail c.args.limits.records fault × ((f : Files) → d.left_since c.run_begun.result.disk 0 f → LeavesUnread opened f)) (λ _. (f : Files) → d.left_since c.run_begun.result.disk 0 f → StandsUnbegun (d.began c.args.disk) f)
    (λ fault leaves f since.
    let left = subst (λ (m : PageFile). FilesStandFor m f × SaysNoneOr ((head_line m ∷ []) ∷ []) f) file (begun_unread opened f (c.in-Ok-begin_beside.ensures.begun (c.in-Ok.ensures.steady ∙ steady)) (leaves.1 f since)) in
    ((λ own. left.0.0, left.0.1), left.1))
    (c.run_begun.ensures.untouched (still g here steady))

pub returns-in-Ok-begin_beside-clause-session : goal.returns-in-Ok-begin_beside-clause-session
returns-in-Ok-begin_beside-clause-session g c steady order contents holds =
    let here = (goal.at.returns-in-Ok-begin_beside-clause-session g c).After-run_begun in
    let d = g.D.DiskState in
    let failures_are = c.in-Ok-begin_beside.ensures.stored.4 ∙ c.in-Ok.ensures.failures in
    wider c.run_begun.result.unopened _ IsOutsideFile (IsOutsideDisk (d.began c.args.disk)) (λ fault outside. inl outside)
    (subst (λ (x : PageFile × ℕ). MatchOption c.run_begun.result.unopened (EndsDurably d c.args.manner (g.R.CountedRead.left c.args.reader.now) (g.R.CountedRead.left c.run_begun.new.reader) (g.W.CountedWrite.held c.args.out.now) (g.W.CountedWrite.held c.run_begun.new.out) c.args.calls.now c.run_begun.new.calls order contents c.args.limits x.1 ((head_line x.0 ∷ []) ∷ []) c.run_begun.result.unclosed c.run_begun.result.status c.run_begun.result.flushed c.run_begun.result.disk) IsOutsideFile)
    (λ i. (main g here steady i, failures_are i))
    (c.run_begun.ensures.session (still g here steady) order contents (subst (HoldsWithin c.args.limits.records order contents) (sym (main g here steady)) holds)))

pub returns-in-Err-begin_beside-clause-first : goal.returns-in-Err-begin_beside-clause-first
returns-in-Err-begin_beside-clause-first g c steady =
    let d = g.D.DiskState in
    let why = subst (λ (f : Files). IsHeadFault (recovered f).pages (recovered f).tail c.in-Err-begin_beside.fault) c.in-Ok.ensures.began (c.in-Err-begin_beside.ensures.fault (c.in-Ok.ensures.steady ∙ steady)) in
    some_told c.unopened-in-Err-begin_beside.result.unopened c.in-Err-begin_beside.fault (IsUnopened (d.began c.args.disk) c.args.limits.records) (ap (λ e. e.unopened) c.unopened-in-Err-begin_beside.ensures)
    (inr (head_first (recovered (d.began c.args.disk)).pages (recovered (d.began c.args.disk)).tail c.args.limits.records c.in-Err-begin_beside.fault why))
