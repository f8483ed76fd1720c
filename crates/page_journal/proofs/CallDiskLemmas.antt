-- What a call of a disk of calls does, and what a crash leaves of a front of its calls.
use Rattle.std.proofs.Common.{◌≡◌, inr, ℕ, ◌-◌, ◌≤◌, true, List, [], ◌∷◌, ◌++◌, length, take, drop, Result, Ok, Err, OnOk, OnErr, refl, ap, subst, arith, length-append}
use Rattle.std.proofs.lemmas.List.{length-drop, take-append-drop}
use Rattle.page_store.specs.declared.store_fault.StoreFault.{StoreFault}
use Rattle.page_journal.specs.Files.{CommitFiles, Files}
use Rattle.page_journal.specs.Steps.{Does, HasMoment, Nothing, InCommits, TornAt, CutsTo}
use Rattle.page_journal.specs.Fates.{first_calls}
use Rattle.page_journal.specs.History.{commits_done, commits_lead, all_done, MayLeave, LeftSince, with_call, failed_more, left_now}
use Rattle.page_journal.specs.CallDisks.{Recorded, recorded_history, recorded_more, recorded_failure, EachFrontLeaves}
use Rattle.page_journal.specs.declared.disk_state.DiskState.{Ghosts}
use Rattle.page_journal.specs.declared.disk_call.DiskCall.{DiskCall}
use Rattle.page_journal.specs.declared.disk_call.DiskCall.TheVariants.{Write, Cut, Commits}
use Rattle.page_journal.specs.declared.commit_call.CommitCall.{CommitCall}
use Rattle.page_journal.proofs.MemDiskLemmas.{mem_ghosts, writes, cuts, commits_do, append_does, append_not, append_sync, commits_sync, commits_kept, mem_moment}

-- what contracts know of a disk of calls
abbrev pub call_ghosts : Ghosts Recorded
call_ghosts = record {
  began = λ r. r.first;
  steady = λ r. true;
  seen = λ r. all_done r.first (r.calls ++ r.past);
  may_leave = λ r c. MayLeave r.first (r.calls ++ r.past) c;
  moment = λ r. length (r.calls ++ r.past);
  left_since = λ r t c. LeftSince r.first (r.calls ++ r.past) t c;
  failures = λ r. r.failures;
}

-- what its history does, it does
pub recorded_does : (step : Files → Files → Type 0) (old new : Recorded) → Does mem_ghosts step (recorded_history old) (recorded_history new) → Does call_ghosts step old new
recorded_does step old new does = record {
  seen = does.seen;
  steady = refl;
  began = does.began;
  crash = does.crash;
  later = does.later;
  nothing_else = does.nothing_else;
  keeps = does.keeps;
}

on_ok : (result : Result (Unit {0}) StoreFault) (call : DiskCall) (old new : Recorded) → OnOk result (new ≡ recorded_more old call) → OnOk result (recorded_history new ≡ with_call (recorded_history old) call)
on_ok (Ok x) call old new ok = ap recorded_history ok
on_ok (Err fault) call old new ok = tt

on_err : (result : Result (Unit {0}) StoreFault) (old new : Recorded) → OnErr result (new ≡ recorded_failure old) → OnErr result (recorded_history new ≡ failed_more (recorded_history old))
on_err (Ok x) old new err = tt
on_err (Err fault) old new err = ap recorded_history err

on_stay : (result : Result (Unit {0}) StoreFault) (old new : Recorded) → OnErr result (new ≡ old) → OnErr result (recorded_history new ≡ recorded_history old)
on_stay (Ok x) old new err = tt
on_stay (Err fault) old new err = ap recorded_history err

module _ (result : Result (Unit {0}) StoreFault) (old new : Recorded) where
  pub call_writes : (n : ℕ) (page : List ℕ) → OnOk result (new ≡ recorded_more old (Write n page)) → OnErr result (new ≡ recorded_failure old) → Does call_ghosts (TornAt n) old new
  call_writes n page ok err = recorded_does (TornAt n) old new (writes n page result (recorded_history old) (recorded_history new) (on_ok result (Write n page) old new ok) (on_err result old new err))

  pub call_cuts : (n : ℕ) → OnOk result (new ≡ recorded_more old (Cut n)) → OnErr result (new ≡ recorded_failure old) → Does call_ghosts (CutsTo n) old new
  call_cuts n ok err = recorded_does (CutsTo n) old new (cuts n result (recorded_history old) (recorded_history new) (on_ok result (Cut n) old new ok) (on_err result old new err))

  pub call_commits_do : (step : CommitFiles → CommitFiles → Type 0) (call : CommitCall) → OnOk result (new ≡ recorded_more old (Commits call)) → OnErr result (new ≡ recorded_failure old) → ((f : CommitFiles) → step f (commits_done call f)) → ((seen d c : CommitFiles) → commits_lead call seen d c → step d c) → ((d : CommitFiles) → step d d) → Does call_ghosts (InCommits step) old new
  call_commits_do step call ok err does means none = recorded_does (InCommits step) old new (commits_do step call result (recorded_history old) (recorded_history new) (on_ok result (Commits call) old new ok) (on_err result old new err) does means none)

  pub call_append_does : (step : CommitFiles → CommitFiles → Type 0) (call : CommitCall) → OnOk result (new ≡ recorded_more old (Commits call)) → OnErr result (new ≡ old) → ((f : CommitFiles) → step f (commits_done call f)) → ((seen d c : CommitFiles) → commits_lead call seen d c → step d c) → ((d : CommitFiles) → step d d) → Does call_ghosts (InCommits step) old new
  call_append_does step call ok err does means none = recorded_does (InCommits step) old new (append_does step call result (recorded_history old) (recorded_history new) (on_ok result (Commits call) old new ok) (on_stay result old new err) does means none)

  pub call_append_sync : (call : CommitCall) → OnOk result (new ≡ recorded_more old (Commits call)) → OnErr result (new ≡ old) → ((f : CommitFiles) → commits_done call f ≡ f) → ((seen d c : CommitFiles) → commits_lead call seen d c → c ≡ d) → Does call_ghosts Nothing old new
  call_append_sync call ok err does means = recorded_does Nothing old new (append_sync call result (recorded_history old) (recorded_history new) (on_ok result (Commits call) old new ok) (on_stay result old new err) does means)

  pub call_commits_sync : (call : CommitCall) → OnOk result (new ≡ recorded_more old (Commits call)) → OnErr result (new ≡ recorded_failure old) → ((f : CommitFiles) → commits_done call f ≡ f) → ((seen d c : CommitFiles) → commits_lead call seen d c → c ≡ d) → Does call_ghosts Nothing old new
  call_commits_sync call ok err does means = recorded_does Nothing old new (commits_sync call result (recorded_history old) (recorded_history new) (on_ok result (Commits call) old new ok) (on_err result old new err) does means)

  pub call_commits_kept : (call : CommitCall) (P : CommitFiles → Type 0) → OnOk result (new ≡ recorded_more old (Commits call)) → ((d c : CommitFiles) → commits_lead call (all_done old.first (old.calls ++ old.past)).commits d c → P c) → OnOk result ((c : Files) → MayLeave new.first (new.calls ++ new.past) c → P c.commits)
  call_commits_kept call P ok so = commits_kept call P result (recorded_history old) (recorded_history new) (on_ok result (Commits call) old new ok) so

  pub call_moment : (call : DiskCall) → OnOk result (new ≡ recorded_more old call) → HasMoment call_ghosts old result new
  call_moment call ok = mem_moment call result (recorded_history old) (recorded_history new) (on_ok result call old new ok)

pub call_uncounted : (call : DiskCall) (result : Result (Unit {0}) StoreFault) (old new : Recorded) → OnOk result (new ≡ recorded_more old call) → OnErr result (new ≡ old) → new.failures ≡ old.failures
call_uncounted call (Ok _) old new ok err = ap (λ (r : Recorded). r.failures) ok
call_uncounted call (Err _) old new ok err = ap (λ (r : Recorded). r.failures) err

pub call_append_not : (step : CommitFiles → CommitFiles → Type 0) (old : Recorded) → ((d : CommitFiles) → step d d) → Does call_ghosts (InCommits step) old old
call_append_not step old none = recorded_does (InCommits step) old old (append_not step (recorded_history old) none)

-- what is left behind fewer calls might have been left since a moment before them
pub left_behind : (first : Files) (late calls : List DiskCall) (t : ℕ) (c : Files) → t ≤ length calls → MayLeave first calls c → LeftSince first (late ++ calls) t c
left_behind first [] calls t c le left = left_now first calls t c left
left_behind first (x ∷ late) calls t c le left = inr (omega (arith, le, length-append late calls), left_behind first late calls t c le left)

-- the first k calls, the last of them perhaps torn
pub front_left : (first : Files) (calls : List DiskCall) (t k : ℕ) (c : Files) → t ≤ k → k ≤ length calls → MayLeave first (first_calls k calls) c → LeftSince first calls t c
front_left first calls t k c le fits left =
    let m = length calls - k in
    let long : t ≤ length (drop m calls) = omega (arith, le, fits, length-drop m calls) in
    subst (λ l. LeftSince first l t c) (take-append-drop m calls) (left_behind first (take m calls) (drop m calls) t c long left)

-- so what holds of all that a crash leaves since a moment holds after each front from there on
pub each_front : (first : Files) (calls : List DiskCall) (t : ℕ) (P : Files → Type 0) → ((c : Files) → LeftSince first calls t c → P c) → EachFrontLeaves first calls t P
each_front first calls t P each = λ k le fits c left. each c (front_left first calls t k c le fits left)
