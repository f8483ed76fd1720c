use Rattle.std.proofs.Common.{◌≡◌, ◌∙◌, inl, inr, ℕ, false, List, Option, Some, None, MatchOption, Result, Err, IfErr, IsSome, IsTrue, rules, refl, sym, ap, subst}
use Rattle.std.proofs.lemmas.Result.{IfErr-at_err, IfErr-weaker}
use Rattle.std.specs.Result.{is_err}
use Rattle.rec_types.specs.Contents.{Contents}
use Rattle.rec_types.specs.Table.{counted}
use Rattle.page_journal.specs.declared.seal_state.SealState.TheVariants as states
use Rattle.page_journal.specs.Files.{PageFile, Files, recovered}
use Rattle.page_journal.specs.Crash.{IsSettled}
use Rattle.page_journal.specs.Logging.{HasLog, IsTextOf}
use Rattle.page_journal.specs.LoggedStores.{commits_in}
use Rattle.page_journal.specs.KeptStores.{KeptStored}
use Rattle.file_session.specs.Beside.{IsSettledWith, IsSettlingFault, LeavesFiles}
use Rattle.file_session.specs.FileFaults.{is_file_device, is_device_answer}
use Rattle.file_session.specs.Closing.{CountsClosing}
use Rattle.file_session.specs.LogOver.{Finds, FindsLog, HoldsRecords, head_line}
use Rattle.file_session.specs.Settling.{FindsAny, IsUnsettled, PutsRight}
use Rattle.file_session.specs.declared.file_fault.FileFault.{FileFault}
use Rattle.file_session.specs.declared.file_fault.FileFault.TheVariants.{BadCommits}
use Rattle.file_session.proofs.ClosingCountLemmas.{device_of_recovery, device_of_store}
use Rattle.file_session.proofs.ClosingLemmas.{always, not_recovered, ok_wider}
use Rattle.file_session.proofs.FindsOnceLemmas.{finds_once, finds_order}
use Rattle.file_session.proofs.SettlingLemmas.{IsStop, files_find, files_stand, not_settling, recovery_commits, recovery_settles, still_unlogged, store_commits, store_outside, unlogged_leaves, only_err}
use Rattle.file_session.proofs.settling.settle.Given as given
use Rattle.file_session.proofs.settling.settle.Goals as goal
use Rattle.file_session.proofs.settling.settle.Goals.{After-found_commits}

pub returns-in-Err : goal.returns-in-Err
returns-in-Err g c =
    let began = g.D.DiskState.began c.args.disk in
    let before = g.D.DiskState.failures c.args.disk in
    let counts : g.D.DiskState.failures c.in-Err.disk ≡ counted before (is_file_device c.from.result) = c.in-Err.ensures.device ∙ ap (counted before) (device_of_recovery c.in-Err.fault) ∙ ap (λ (f : FileFault). counted before (is_file_device f)) (sym c.from.ensures) in
    record {
      kept = λ st order records finds left since.
          let stands = c.in-Err.ensures.stopped st left since in
          files_find order records began left finds ((stands.0 finds.belongs, stands.1), c.in-Err.ensures.log left since);
      settled = λ st order records finds. tt;
      found = λ st order records finds. recovery_settles began c.in-Err.fault c.from.result c.from.ensures finds.belongs (c.in-Err.ensures.bad_journal st);
      logged = λ st some. tt;
      alone = λ st none. tt;
      bad_commits = λ st bad. absurd (recovery_commits c.in-Err.fault c.from.result c.from.ensures (only_err bad));
      unfound = λ st none left since. (c.in-Err.ensures.stopped st left since, c.in-Err.ensures.log left since);
      fault = λ st. inl (not_recovered began c.in-Err.fault c.from.result c.from.ensures (c.in-Err.ensures.bad_journal st));
      bare = λ st. tt;
      failures = record {
        again = false;
        failures = counts;
        once = λ never. absurd (cc never);
      };
      once = λ st none. counts;
      steady = tt;
    }

-- the store over the disk that was opened
module _ (g : given.Over) (c : After-found_commits g) where
  abbrev first : Files
  first = g.D.DiskState.began c.args.disk

  abbrev store : KeptStored g.row.D.Denot
  store = c.found_commits.new.self

  log : c.found_commits.new.self.log ≡ None
  log = ap (λ (s : KeptStored _). s.log) c.found_commits.ensures.rest ∙ ap (λ (s : KeptStored _). s.log) c.in-Ok.ensures.opened

  state : c.found_commits.new.self.state ≡ states.Unsealed
  state = ap (λ (s : KeptStored _). s.state) c.found_commits.ensures.rest ∙ ap (λ (s : KeptStored _). s.state) c.in-Ok.ensures.opened

  began : g.D.DiskState.began c.found_commits.new.self.disk ≡ first
  began = c.found_commits.ensures.opened.1 ∙ c.in-Ok.ensures.began

  steady : g.D.DiskState.steady c.found_commits.new.self.disk ≡ g.D.DiskState.steady c.args.disk
  steady = c.found_commits.ensures.opened.0 ∙ c.in-Ok.ensures.steady

  main : IsTrue (g.D.DiskState.steady c.args.disk) → (g.D.DiskState.seen c.found_commits.new.self.disk).main ≡ recovered first
  main st = ap (λ (f : Files). f.main) c.found_commits.ensures.seen ∙ (c.in-Ok.ensures.file st).1

-- where no log stands, the records that an opening finds are those of the file
alone_finds : (order : ℕ) (records : Contents) (old : Files) → old.commits.log ≡ None → Finds order records old → HoldsRecords order records (recovered old)
alone_finds order records old none finds =
    let same : records ≡ finds.under = subst (λ (l : Option (List ℕ)). FindsLog (head_line (recovered old)) finds.under records l) none finds.log in
    subst (λ (m : Contents). HoldsRecords order m (recovered old)) (sym same) finds.holds

pub returns-in-Ok-None : goal.returns-in-Ok-None
returns-in-Ok-None g c =
    let d = g.D.DiskState in
    let here = (goal.at.returns-in-Ok-None g c).After-found_commits in
    let first = d.began c.args.disk in
    let new = c.keep_alone.result.0 in
    let keeps : IsTrue (d.steady c.args.disk) → (left : Files) → d.left_since new 0 left → LeavesFiles first left = λ st left since. subst (λ (f : Files). LeavesFiles f left) (began g here) (c.keep_alone.ensures.old (steady g here ∙ st) left since) in
    let unfound : c.in-Ok-None.field-0 ≡ None = search rules in
    let none : IsTrue (d.steady c.args.disk) → first.commits.log ≡ None = λ st. ap (λ (f : Files). f.commits.log) (sym c.in-Ok.ensures.began) ∙ subst (λ o. MatchOption o ((d.began c.in-Ok.store.disk).commits.log ≡ None) (λ text. HasLog (IsTextOf text.items) (d.began c.in-Ok.store.disk))) unfound (c.in-Ok-None.ensures.text (c.in-Ok.ensures.steady ∙ st)) in
    let counts : d.failures new ≡ d.failures c.args.disk = ap d.failures c.keep_alone.ensures.same ∙ c.in-Ok-None.ensures.failures ∙ c.in-Ok.ensures.failures in
    let settled : IsTrue (d.steady c.args.disk) → IsSettled d (recovered first) new = λ st. subst (λ (m : PageFile). IsSettled d m new) (main g here st) (c.keep_alone.ensures.settled (steady g here ∙ st)) in
    subst (λ (r : Result (Unit {0}) FileFault). PutsRight d c.args.disk r new) (sym c.keep_alone.ensures.fault) (record {
      kept = λ st order records finds left since. files_find order records first left finds (keeps st left since);
      settled = λ st order records finds. record {
        has = subst (HoldsRecords order records) (sym (settled st).seen) (alone_finds order records first (none st) finds);
        settled = subst (λ (m : PageFile). IsSettled d m new) (sym (settled st).seen) (settled st);
        no_log = c.keep_alone.ensures.log (steady g here ∙ st);
      };
      found = λ st order records finds. tt;
      logged = λ st some. absurd (some (none st));
      alone = λ st was. (settled st, keeps st);
      bad_commits = λ st bad. absurd (cc bad);
      unfound = λ st none left since. files_stand first left (keeps st left since);
      fault = λ st. tt;
      bare = λ st. (subst (λ (m : PageFile). IsSettled d m new) (sym (settled st).seen) (settled st), c.keep_alone.ensures.log (steady g here ∙ st));
      failures = record {
        again = false;
        failures = counts;
        once = λ ok. refl;
      };
      once = λ st was. counts;
      steady = ap d.steady c.keep_alone.ensures.same ∙ steady g here;
    })

pub returns-in-Ok-Some : goal.returns-in-Ok-Some
returns-in-Ok-Some g c =
    let d = g.D.DiskState in
    let here = (goal.at.returns-in-Ok-Some g c).After-found_commits in
    let first = d.began c.args.disk in
    let new = c.settle_file.result.0 in
    let is = began g here in
    let there : c.in-Ok-Some.field-0 ≡ Some c.in-Ok-Some.text = search rules in
    let some : IsTrue (d.steady c.args.disk) → HasLog (IsTextOf c.in-Ok-Some.text.items) first = λ st. subst (λ (f : Files). HasLog (IsTextOf c.in-Ok-Some.text.items) f) c.in-Ok.ensures.began (subst (λ o. MatchOption o ((d.began c.in-Ok.store.disk).commits.log ≡ None) (λ text. HasLog (IsTextOf text.items) (d.began c.in-Ok.store.disk))) there (c.in-Ok-Some.ensures.text (c.in-Ok.ensures.steady ∙ st))) in
    let stays : IsTrue (d.steady c.args.disk) → (FindsAny first → ⊥) → (left : Files) → d.left_since new 0 left → LeavesFiles first left = λ st none left since. subst (λ (f : Files). LeavesFiles f left) is (c.settle_file.ensures.unfound (steady g here ∙ st) (λ any. none (subst FindsAny is any)) left since) in
    let why : IsTrue (d.steady c.args.disk) → IfErr c.settle_file.result.1 (IsStop first) = λ st. subst (λ (f : Files). IfErr c.settle_file.result.1 (IsStop f)) is (c.settle_file.ensures.fault (steady g here ∙ st)) in
    record {
      kept = λ st order records finds left since. c.settle_file.ensures.kept (steady g here ∙ st) order records (subst (Finds order records) (sym is) finds) left since;
      settled = λ st order records finds. ok_wider c.settle_file.result.1 _ _
          (λ made.
          let there = subst (Finds made.0 made.1) is made.2 in
          subst (λ (x : ℕ × Contents). IsSettledWith d x.0 x.1 new) (λ i. (finds_order made.0 order made.1 records first there finds i, finds_once made.0 order made.1 records first there finds i)) made.3)
          (c.settle_file.ensures.over (steady g here ∙ st));
      found = λ st order records finds. IfErr-weaker c.settle_file.result.1 (IsStop first) IsSettlingFault (λ fault why. why.1 (order, records, finds)) (why st);
      logged = λ st there. ok_wider c.settle_file.result.1 _ _ (λ made. (made.0, made.1, subst (Finds made.0 made.1) is made.2)) (c.settle_file.ensures.over (steady g here ∙ st));
      alone = λ st none. absurd (cc (sym (some st).1 ∙ none));
      bad_commits = λ st bad. stays st (λ any. (not_settling BadCommits ((IfErr-at_err (IsStop first) bad (why st)).1 any)).1 refl);
      unfound = λ st none left since. files_stand first left (stays st none left since);
      fault = λ st. IfErr-weaker c.settle_file.result.1 (IsStop first) (IsUnsettled first)
          (λ fault told. inr (subst (λ (l : Option (List ℕ)). IsSome l) (sym (some st).1) refl, (c.in-Ok.ensures.file st).0, told.0))
          (why st);
      bare = λ st. ok_wider c.settle_file.result.1 _ _ (λ made. (made.3.settled, made.3.no_log)) (c.settle_file.ensures.over (steady g here ∙ st));
      failures = subst (λ n. CountsClosing n (is_err c.settle_file.result.1) (is_device_answer c.settle_file.result.1) (d.failures new)) (c.in-Ok-Some.ensures.failures ∙ c.in-Ok.ensures.failures) c.settle_file.ensures.failures;
      once = λ st none. absurd (cc (sym (some st).1 ∙ none));
      steady = always c.settle_file.result.1 _ (c.settle_file.ensures.steady ∙ steady g here);
    }

pub returns-in-Err-found_commits : goal.returns-in-Err-found_commits
returns-in-Err-found_commits g c =
    let d = g.D.DiskState in
    let here = (goal.at.returns-in-Err-found_commits g c).After-found_commits in
    let first = d.began c.args.disk in
    let new = c.let_go.result.0 in
    let counts : d.failures new ≡ counted (d.failures c.args.disk) (is_file_device c.from-in-Err-found_commits.result) =
    ap d.failures (c.let_go.ensures.same (λ sealed. absurd (cc (sym (state g here) ∙ sealed))))
    ∙ c.in-Err-found_commits.ensures.failures
    ∙ (λ i. counted (c.in-Ok.ensures.failures i) (device_of_store (Err c.in-Err-found_commits.fault) i))
    ∙ ap (λ (f : FileFault). counted (d.failures c.args.disk) (is_file_device f)) (sym c.from-in-Err-found_commits.ensures) in
    let outside = store_outside c.in-Err-found_commits.fault c.from-in-Err-found_commits.result c.from-in-Err-found_commits.ensures in
    let leaves : IsTrue (d.steady c.args.disk) → (left : Files) → d.left_since new 0 left → LeavesFiles first left = λ st left since.
    let old = still_unlogged (d.began c.found_commits.new.self.disk) c.found_commits.new.self.log (commits_in c.found_commits.new.self.log (d.seen c.found_commits.new.self.disk)) c.found_commits.new.self.doubt refl (log g here) in
    subst (λ (f : Files). LeavesFiles f left) (began g here) (unlogged_leaves (d.began c.found_commits.new.self.disk) left _ old.0 old.1 old.2 (c.let_go.ensures.old (steady g here ∙ st) left since)) in
    subst (λ (r : Result (Unit {0}) FileFault). PutsRight d c.args.disk r new) (sym c.let_go.ensures.fault) (record {
      kept = λ st order records finds left since. files_find order records first left finds (leaves st left since);
      settled = λ st order records finds. tt;
      found = λ st order records finds. inl outside;
      logged = λ st some. tt;
      alone = λ st none. tt;
      bad_commits = λ st bad. absurd (store_commits c.in-Err-found_commits.fault c.from-in-Err-found_commits.result c.from-in-Err-found_commits.ensures (only_err bad));
      unfound = λ st none left since. files_stand first left (leaves st left since);
      fault = λ st. inl (inl outside);
      bare = λ st. tt;
      failures = record {
        again = false;
        failures = counts;
        once = λ never. absurd (cc never);
      };
      once = λ st none. counts;
      steady = tt;
    })
