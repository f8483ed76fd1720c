-- What a call of a disk in memory does, where it is kept and where it fails.
use Rattle.std.proofs.Common.{◌≡◌, ⊎_elim, inl, inr, ℕ, ◌+◌, ◌≤◌, ◌&&◌, Bool, true, false, cond, nat_lt, List, [], ◌∷◌, length, Result, Ok, Err, OnOk, OnErr, refl, sym, ap, subst, arith}
use Rattle.std.proofs.lemmas.List.{set-get_or, take_all}
use Rattle.std.specs.Prelude.{slice_index_or}
use Rattle.rec_types.specs.Table.{counted, greatest_count}
use Rattle.page_store.specs.declared.store_fault.StoreFault.{StoreFault}
use Rattle.page_journal.specs.Files.{CommitFiles, Files}
use Rattle.page_journal.specs.Steps.{Does, HasMoment, Nothing, InCommits, TornAt, CutsTo}
use Rattle.page_journal.specs.History.{History, commits_done, commits_lead, done, leads, all_done, MayLeave, LeftSince, with_call, failed_more}
use Rattle.page_journal.specs.declared.disk_state.DiskState.{Ghosts}
use Rattle.page_journal.specs.declared.disk_call.DiskCall.{DiskCall}
use Rattle.page_journal.specs.declared.disk_call.DiskCall.TheVariants.{Write, Cut, Commits}
use Rattle.page_journal.specs.declared.commit_call.CommitCall.{CommitCall}

-- what contracts know of a disk in memory
abbrev pub mem_ghosts : Ghosts History
mem_ghosts = record {
  began = λ h. h.first;
  steady = λ h. true;
  seen = λ h. all_done h.first h.calls;
  may_leave = λ h c. MayLeave h.first h.calls c;
  moment = λ h. length h.calls;
  left_since = λ h t c. LeftSince h.first h.calls t c;
  failures = λ h. h.failures;
}

does_call : (step : Files → Files → Type 0) (call : DiskCall) (old : History) → step (all_done old.first old.calls) (done call (all_done old.first old.calls)) → ((d c : Files) → leads call (all_done old.first old.calls) d c → step d c) → Does mem_ghosts step old (with_call old call)
does_call step call old seen crash = record {
  seen = seen;
  steady = refl;
  began = refl;
  crash = λ c left. (left.0, left.1, crash left.0 c left.2);
  later = omega arith;
  nothing_else = λ t c le left. ⊎_elim (λ now. inr now) (λ was. inl was.1) left;
  keeps = λ t c le left. inr (le, left);
}

does_fail : (step : Files → Files → Type 0) (old : History) → ((d : Files) → step d d) → Does mem_ghosts step old (failed_more old)
does_fail step old none = record {
  seen = none (all_done old.first old.calls);
  steady = refl;
  began = refl;
  crash = λ c left. (c, left, none c);
  later = omega arith;
  nothing_else = λ t c le left. inl left;
  keeps = λ t c le left. left;
}

-- a call that is kept, or that failed
does_either : (step : Files → Files → Type 0) (call : DiskCall) (result : Result (Unit {0}) StoreFault) (old new : History) → OnOk result (new ≡ with_call old call) → OnErr result (new ≡ failed_more old) → Does mem_ghosts step old (with_call old call) → Does mem_ghosts step old (failed_more old) → Does mem_ghosts step old new
does_either step call (Ok _) old new ok err kept failed = subst (λ h. Does mem_ghosts step old h) (sym ok) kept
does_either step call (Err _) old new ok err kept failed = subst (λ h. Does mem_ghosts step old h) (sym err) failed

-- a page that has the bytes that it had
pub torn_none : (n : ℕ) (d : Files) → TornAt n d d
torn_none n d = record {
  page = slice_index_or d.main.pages n [];
  main = λ i. record { pages = sym (set-get_or d.main.pages n []) i; tail = d.main.tail };
  fresh = refl;
  side = refl;
  commits = refl;
}

pub cut_none : (n : ℕ) (d : Files) → CutsTo n d d
cut_none n d = record {
  to = n + length d.main.pages;
  least = omega arith;
  pages = sym (take_all (n + length d.main.pages) d.main.pages (omega arith));
  fresh = refl;
  side = refl;
  commits = refl;
}

pub writes : (n : ℕ) (page : List ℕ) (result : Result (Unit {0}) StoreFault) (old new : History) → OnOk result (new ≡ with_call old (Write n page)) → OnErr result (new ≡ failed_more old) → Does mem_ghosts (TornAt n) old new
writes n page result old new ok err = does_either (TornAt n) (Write n page) result old new ok err (does_call (TornAt n) (Write n page) old (record { page = page; main = refl; fresh = refl; side = refl; commits = refl }) (λ d c torn. torn)) (does_fail (TornAt n) old (torn_none n))

pub cuts : (n : ℕ) (result : Result (Unit {0}) StoreFault) (old new : History) → OnOk result (new ≡ with_call old (Cut n)) → OnErr result (new ≡ failed_more old) → Does mem_ghosts (CutsTo n) old new
cuts n result old new ok err = does_either (CutsTo n) (Cut n) result old new ok err (does_call (CutsTo n) (Cut n) old (record { to = n; least = omega arith; pages = refl; fresh = refl; side = refl; commits = refl }) (λ d c cut. cut)) (does_fail (CutsTo n) old (cut_none n))

-- a call on the logs of commits
pub commits_do : (step : CommitFiles → CommitFiles → Type 0) (call : CommitCall) (result : Result (Unit {0}) StoreFault) (old new : History) → OnOk result (new ≡ with_call old (Commits call)) → OnErr result (new ≡ failed_more old) → ((f : CommitFiles) → step f (commits_done call f)) → ((seen d c : CommitFiles) → commits_lead call seen d c → step d c) → ((d : CommitFiles) → step d d) → Does mem_ghosts (InCommits step) old new
commits_do step call result old new ok err does means none =
    does_either (InCommits step) (Commits call) result old new ok err
    (does_call (InCommits step) (Commits call) old (record { main = refl; fresh = refl; side = refl; commits = does (all_done old.first old.calls).commits }) (λ d c lead. record { main = lead.main; fresh = lead.fresh; side = lead.side; commits = means (all_done old.first old.calls).commits d.commits c.commits lead.commits }))
    (does_fail (InCommits step) old (λ d. record { main = refl; fresh = refl; side = refl; commits = none d.commits }))

-- a call that isn't carried out, and isn't counted
does_not : (step : Files → Files → Type 0) (old : History) → ((d : Files) → step d d) → Does mem_ghosts step old old
does_not step old none = record {
  seen = none (all_done old.first old.calls);
  steady = refl;
  began = refl;
  crash = λ c left. (c, left, none c);
  later = omega arith;
  nothing_else = λ t c le left. inl left;
  keeps = λ t c le left. left;
}

-- a call that appends to a log is kept, or not carried out
does_or_not : (step : Files → Files → Type 0) (call : DiskCall) (result : Result (Unit {0}) StoreFault) (old new : History) → OnOk result (new ≡ with_call old call) → OnErr result (new ≡ old) → Does mem_ghosts step old (with_call old call) → Does mem_ghosts step old old → Does mem_ghosts step old new
does_or_not step call (Ok _) old new ok err kept failed = subst (λ h. Does mem_ghosts step old h) (sym ok) kept
does_or_not step call (Err _) old new ok err kept failed = subst (λ h. Does mem_ghosts step old h) (sym err) failed

pub uncounted : (call : DiskCall) (result : Result (Unit {0}) StoreFault) (old new : History) → OnOk result (new ≡ with_call old call) → OnErr result (new ≡ old) → new.failures ≡ old.failures
uncounted call (Ok _) old new ok err = ap (λ (h : History). h.failures) ok
uncounted call (Err _) old new ok err = ap (λ (h : History). h.failures) err

pub append_does : (step : CommitFiles → CommitFiles → Type 0) (call : CommitCall) (result : Result (Unit {0}) StoreFault) (old new : History) → OnOk result (new ≡ with_call old (Commits call)) → OnErr result (new ≡ old) → ((f : CommitFiles) → step f (commits_done call f)) → ((seen d c : CommitFiles) → commits_lead call seen d c → step d c) → ((d : CommitFiles) → step d d) → Does mem_ghosts (InCommits step) old new
append_does step call result old new ok err does means none =
    does_or_not (InCommits step) (Commits call) result old new ok err
    (does_call (InCommits step) (Commits call) old (record { main = refl; fresh = refl; side = refl; commits = does (all_done old.first old.calls).commits }) (λ d c lead. record { main = lead.main; fresh = lead.fresh; side = lead.side; commits = means (all_done old.first old.calls).commits d.commits c.commits lead.commits }))
    (does_not (InCommits step) old (λ d. record { main = refl; fresh = refl; side = refl; commits = none d.commits }))

pub append_not : (step : CommitFiles → CommitFiles → Type 0) (old : History) → ((d : CommitFiles) → step d d) → Does mem_ghosts (InCommits step) old old
append_not step old none = does_not (InCommits step) old (λ d. record { main = refl; fresh = refl; side = refl; commits = none d.commits })

pub append_sync : (call : CommitCall) (result : Result (Unit {0}) StoreFault) (old new : History) → OnOk result (new ≡ with_call old (Commits call)) → OnErr result (new ≡ old) → ((f : CommitFiles) → commits_done call f ≡ f) → ((seen d c : CommitFiles) → commits_lead call seen d c → c ≡ d) → Does mem_ghosts Nothing old new
append_sync call result old new ok err does means =
    does_or_not Nothing (Commits call) result old new ok err
    (does_call Nothing (Commits call) old
    (λ i. record { main = (all_done old.first old.calls).main; fresh = (all_done old.first old.calls).fresh; side = (all_done old.first old.calls).side; commits = does (all_done old.first old.calls).commits i })
    (λ d c lead i. record { main = lead.main i; fresh = lead.fresh i; side = lead.side i; commits = means (all_done old.first old.calls).commits d.commits c.commits lead.commits i }))
    (does_not Nothing old (λ d. refl))

-- a sync of a log
pub commits_sync : (call : CommitCall) (result : Result (Unit {0}) StoreFault) (old new : History) → OnOk result (new ≡ with_call old (Commits call)) → OnErr result (new ≡ failed_more old) → ((f : CommitFiles) → commits_done call f ≡ f) → ((seen d c : CommitFiles) → commits_lead call seen d c → c ≡ d) → Does mem_ghosts Nothing old new
commits_sync call result old new ok err does means =
    does_either Nothing (Commits call) result old new ok err
    (does_call Nothing (Commits call) old
    (λ i. record { main = (all_done old.first old.calls).main; fresh = (all_done old.first old.calls).fresh; side = (all_done old.first old.calls).side; commits = does (all_done old.first old.calls).commits i })
    (λ d c lead i. record { main = lead.main i; fresh = lead.fresh i; side = lead.side i; commits = means (all_done old.first old.calls).commits d.commits c.commits lead.commits i }))
    (does_fail Nothing old (λ d. refl))

-- and what the device keeps then
pub commits_kept : (call : CommitCall) (P : CommitFiles → Type 0) (result : Result (Unit {0}) StoreFault) (old new : History) → OnOk result (new ≡ with_call old (Commits call)) → ((d c : CommitFiles) → commits_lead call (all_done old.first old.calls).commits d c → P c) → OnOk result ((c : Files) → MayLeave new.first new.calls c → P c.commits)
commits_kept call P (Ok _) old new ok so = λ c left.
    let was : MayLeave old.first (Commits call ∷ old.calls) c = subst (λ (h : History). MayLeave h.first h.calls c) ok left in
    so was.0.commits c.commits was.2.commits
commits_kept call P (Err _) old new ok so = tt

-- a call that is kept has its moment
pub mem_moment : (call : DiskCall) (result : Result (Unit {0}) StoreFault) (old new : History) → OnOk result (new ≡ with_call old call) → HasMoment mem_ghosts old result new
mem_moment call (Ok x) old new ok = subst (λ (h : History). counted (length old.calls) true ≤ length h.calls) (sym ok) (at (true && nat_lt (length old.calls) greatest_count))
  where
    at : (b : Bool) → cond b (length old.calls + 1) (length old.calls) ≤ length (call ∷ old.calls)
    at true = omega arith
    at false = omega arith
mem_moment call (Err fault) old new ok = tt
