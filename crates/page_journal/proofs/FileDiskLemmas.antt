-- What the calls of a disk in files do, by what it notes of them. This module is private to the proofs of this crate.
use Rattle.std.proofs.Common.{◌≡◌, ◌≢◌, ◌⊎◌, ⊎_elim, inl, inr, ℕ, suc, ◌+◌, ◌-◌, ◌≤◌, ◌&&◌, ◌++◌, Bool, true, false, cond, nat_lt, List, [], ◌∷◌, length, take, drop, Option, Some, None, option_map, Result, Ok, Err, IsTrue, OnOk, refl, sym, ap, subst, ◌∙◌, append_assoc, rules, arith}
use Rattle.std.proofs.lemmas.Bool.{false≢true}
use Rattle.std.proofs.lemmas.List.{length-take, length-drop, length-append, length-replicate, append-nil}
use Rattle.rec_types.specs.Table.{counted, greatest_count}
use Rattle.commit_paper.specs.Text.{Mixes}
use Rattle.commit_paper.specs.Steps.{Lengthens, Inks}
use Rattle.page_store.specs.Blank.{blank, blanks}
use Rattle.page_store.specs.FileValues.{gives_back}
use Rattle.page_store.specs.StoreFaults.{is_failed, OnlyFails}
use Rattle.page_store.specs.declared.store_fault.StoreFault.{StoreFault}
use Rattle.page_store.specs.declared.store_fault.StoreFault.TheVariants.{Failed, Memory}
use Rattle.page_journal.specs.Files.{Files}
use Rattle.page_journal.specs.Steps.{Does, CallDoes, AppendDoes, CallSyncs, CountsFault, HasMoment, Nothing, TornAt, GrowsUpTo, CutsTo, Fresh, Names, RemovesSide, FreshLog, NamesLog, RemovesLog, OnLog, ChangesLog, InCommits}
use Rattle.page_journal.specs.FileEvents.{FileCall, FileEvent, Write, Grow, Cut, CutTail, Sync, Start, Keep, SyncFresh, Name, Remove, SyncNames, StartLog, SyncFreshLog, NameLog, RemoveLog, LengthenLog, WriteLog, SyncLog, Opened, files_found, FileHistory, noted_done, noted_failed, noted_tried, noted_keeps, after_noted, noted_leads, all_noted, NotedMayLeave, NotedLeftSince, with_noted, unknown_bytes, unknown_mix, seen_by}
use Rattle.page_journal.specs.FileDisks.{Notes, Refuses}
use Rattle.page_journal.specs.declared.disk_state.DiskState.{Ghosts}
use Rattle.page_journal.proofs.CommitFateLemmas.{zeroed_log, written_log}
use Rattle.page_journal.proofs.MemDiskLemmas.{cut_none}

-- what contracts know of a disk in files
abbrev pub file_ghosts : Bool → Ghosts FileHistory
file_ghosts b = record {
  began = λ h. h.first;
  steady = λ h. b;
  seen = λ h. all_noted h.first h.calls;
  may_leave = λ h c. NotedMayLeave h.first h.calls c;
  moment = λ h. length h.calls;
  left_since = λ h t c. NotedLeftSince h.first h.calls t c;
  failures = λ h. h.failures;
}

-- what a call may do to the files, and what a crash may leave of it, is this step
pub record Fits (step : Files → Files → Type 0) (call : FileCall) : Type 0 where
  pub is_done : (f : Files) → step f (noted_done call f)
  pub isn't_done : (i : ℕ) (f : Files) → step f (noted_failed i call f)
  pub is_tried : (d c : Files) → noted_tried call d c → step d c

fits_after : (step : Files → Files → Type 0) (call : FileCall) → Fits step call → (i : ℕ) (failed : Bool) (f : Files) → step f (after_noted i failed call f)
fits_after step call fits i false f = fits.is_done f
fits_after step call fits i true f = fits.isn't_done i f

was_tried : (failed : Bool) (call : FileCall) (seen d c : Files) → noted_leads failed call seen d c → noted_tried call d c
was_tried false call seen d c left = left.0
was_tried true call seen d c left = left

module _ (b : Bool) (step : Files → Files → Type 0) where
  does_call : (call : FileCall) → Fits step call → (failed : Bool) (old : FileHistory) (failures : ℕ) → Does (file_ghosts b) step old (record (with_noted old failed call) { failures = failures })
  does_call call fits failed old failures = record {
    seen = fits_after step call fits (length old.calls) failed (all_noted old.first old.calls);
    steady = refl;
    began = refl;
    crash = λ c left. (left.0, left.1, fits.is_tried left.0 c (was_tried failed call (all_noted old.first old.calls) left.0 c left.2));
    later = omega arith;
    nothing_else = λ t c le left. ⊎_elim (λ now. inr now) (λ was. inl was.1) left;
    keeps = λ t c le left. inr (le, left);
  }

  pub does_not : ((d : Files) → step d d) → (old : FileHistory) (failures : ℕ) → Does (file_ghosts b) step old (record old { failures = failures })
  does_not none old failures = record {
    seen = none (all_noted old.first old.calls);
    steady = refl;
    began = refl;
    crash = λ c left. (c, left, none c);
    later = omega arith;
    nothing_else = λ t c le left. inl left;
    keeps = λ t c le left. left;
  }

  -- a call that was made and noted
  pub does_made : (call : FileCall) (failed : Bool) (old new : FileHistory) (failures : ℕ) → Fits step call → new ≡ record (with_noted old failed call) { failures = failures } → Does (file_ghosts b) step old new
  does_made call failed old new failures fits is = subst (λ (h : FileHistory). Does (file_ghosts b) step old h) (sym is) (does_call call fits failed old failures)

  -- and one that wasn't made
  pub does_none : (old new : FileHistory) (failures : ℕ) → ((d : Files) → step d d) → new ≡ record old { failures = failures } → Does (file_ghosts b) step old new
  does_none old new failures none is = subst (λ (h : FileHistory). Does (file_ghosts b) step old h) (sym is) (does_not none old failures)

  -- after a call that counted a failure at most
  pub does_begun : (old mid new : FileHistory) (failures : ℕ) → mid ≡ record old { failures = failures } → Does (file_ghosts b) step mid new → Does (file_ghosts b) step old new
  does_begun old mid new failures is does =
      let d = subst (λ (h : FileHistory). Does (file_ghosts b) step h new) is does in
      record { seen = d.seen; steady = d.steady; began = d.began; crash = d.crash; later = d.later; nothing_else = d.nothing_else; keeps = d.keeps }

  -- after a step that may follow by itself
  pub does_both : (old mid new : FileHistory) → ((d e c : Files) → step d e → step e c → step d c) → ((c : Files) → NotedMayLeave mid.first mid.calls c → NotedMayLeave new.first new.calls c) → Does (file_ghosts b) step old mid → Does (file_ghosts b) step mid new → Does (file_ghosts b) step old new
  does_both old mid new both still first then = record {
    seen = both (all_noted old.first old.calls) (all_noted mid.first mid.calls) (all_noted new.first new.calls) first.seen then.seen;
    steady = refl;
    began = then.began ∙ first.began;
    crash = λ c left.
        let e = then.crash c left in
        let d = first.crash e.0 e.1 in
        (d.0, d.1, both d.0 e.0 c d.2 e.2);
    later = omega (arith, first.later, then.later);
    nothing_else = λ t c le left.
        ⊎_elim (λ was. ⊎_elim (λ early. inl early) (λ now. inr (still c now)) (first.nothing_else t c le was)) (λ now. inr now) (then.nothing_else t c (omega (arith, le, first.later)) left);
    keeps = λ t c le left. then.keeps t c (omega (arith, le, first.later)) (first.keeps t c le left);
  }

-- what a crash may leave before a call that has the device keep nothing it may leave after it
pub still_made : (call : FileCall) (failed : Bool) (mid new : FileHistory) (failures : ℕ) → new ≡ record (with_noted mid failed call) { failures = failures } → ((seen c : Files) → noted_leads failed call seen c c) → (c : Files) → NotedMayLeave mid.first mid.calls c → NotedMayLeave new.first new.calls c
still_made call failed mid new failures is still c left =
    subst (λ (h : FileHistory). NotedMayLeave h.first h.calls c) (sym is) (c, left, still (all_noted mid.first mid.calls) c)

pub still_none : (mid new : FileHistory) (failures : ℕ) → new ≡ record mid { failures = failures } → (c : Files) → NotedMayLeave mid.first mid.calls c → NotedMayLeave new.first new.calls c
still_none mid new failures is c left = subst (λ (h : FileHistory). NotedMayLeave h.first h.calls c) (sym is) left

-- what is seen after a call that succeeded, and what the device keeps
pub on_done : {A : Type 0} (call : FileCall) (P : Files → Files → Type 0) (result : Result A StoreFault) (old new : FileHistory) (failures : ℕ) → new ≡ record (with_noted old (is_failed result) call) { failures = failures } → ((f : Files) → P f (noted_done call f)) → OnOk result (P (all_noted old.first old.calls) (all_noted new.first new.calls))
on_done call P (Ok x) old new failures is so = subst (λ (h : FileHistory). P (all_noted old.first old.calls) (all_noted h.first h.calls)) (sym is) (so (all_noted old.first old.calls))
on_done call P (Err fault) old new failures is so = tt

pub on_kept : {A : Type 0} (call : FileCall) (P : Files → Files → Type 0) (result : Result A StoreFault) (old new : FileHistory) (failures : ℕ) → new ≡ record (with_noted old (is_failed result) call) { failures = failures } → ((seen c : Files) → noted_keeps call seen c → P seen c) → OnOk result ((c : Files) → NotedMayLeave new.first new.calls c → P (all_noted old.first old.calls) c)
on_kept call P (Ok x) old new failures is so = λ c left.
    let was : NotedMayLeave old.first (record { failed = false; call = call } ∷ old.calls) c = subst (λ (h : FileHistory). NotedMayLeave h.first h.calls c) is left in
    so (all_noted old.first old.calls) c was.2.1
on_kept call P (Err fault) old new failures is so = tt

-- a call that was made has its moment
pub has_moment : {A : Type 0} (b : Bool) (call : FileCall) (result : Result A StoreFault) (old new : FileHistory) (failures : ℕ) → new ≡ record (with_noted old (is_failed result) call) { failures = failures } → HasMoment (file_ghosts b) old result new
has_moment b call (Ok x) old new failures is = subst (λ (h : FileHistory). counted (length old.calls) true ≤ length h.calls) (sym is) (at (true && nat_lt (length old.calls) greatest_count))
  where
    at : (more : Bool) → cond more (length old.calls + 1) (length old.calls) ≤ suc (length old.calls)
    at true = omega arith
    at false = omega arith
has_moment b call (Err fault) old new failures is = tt

-- the one fault is Failed
pub no_memory : {A : Type 0} (result : Result A StoreFault) → OnlyFails result → result ≢ Err Memory
no_memory (Ok x) only = search rules
no_memory (Err Failed) only = search rules
no_memory (Err Memory) only = search rules

pub counts : {A : Type 0} (b : Bool) (result : Result A StoreFault) (old new : FileHistory) → OnlyFails result → new.failures ≡ counted old.failures (is_failed result) → CountsFault (file_ghosts b) old result new
counts b result old new only is = record { failures = is; no_memory = no_memory result only }

-- the steps of the calls
pub writes : (n : ℕ) (page : List ℕ) → Fits (TornAt n) (Write n page)
writes n page = record {
  is_done = λ f. record { page = page; main = refl; fresh = refl; side = refl; commits = refl };
  isn't_done = λ i f. record { page = unknown_bytes i; main = refl; fresh = refl; side = refl; commits = refl };
  is_tried = λ d c tried. tried;
}

grows_none : (n : ℕ) (d : Files) → GrowsUpTo n d d
grows_none n d = record { more = []; pages = sym (append-nil d.main.pages); fits = λ le. le; fresh = refl; side = refl; commits = refl }

pub grows_still : (n : ℕ) (failed : Bool) (seen c : Files) → noted_leads failed (Grow n) seen c c
grows_still n false seen c = (grows_none n c, tt)
grows_still n true seen c = grows_none n c

pub grows_both : (n : ℕ) (d e c : Files) → GrowsUpTo n d e → GrowsUpTo n e c → GrowsUpTo n d c
grows_both n d e c first then = record {
  more = first.more ++ then.more;
  pages = then.pages ∙ ap (λ (pages : List (List ℕ)). pages ++ then.more) first.pages ∙ append_assoc d.main.pages first.more then.more;
  fits = λ le. then.fits (first.fits le);
  fresh = then.fresh ∙ first.fresh;
  side = then.side ∙ first.side;
  commits = then.commits ∙ first.commits;
}

pub grows : (n : ℕ) → Fits (GrowsUpTo n) (Grow n)
grows n = record {
  is_done = λ f. record {
    more = blanks (n - length f.main.pages);
    pages = refl;
    fits = λ le. omega (arith, le, length-append f.main.pages (blanks (n - length f.main.pages)), length-replicate (n - length f.main.pages) blank);
    fresh = refl;
    side = refl;
    commits = refl;
  };
  isn't_done = λ i f. grows_none n f;
  is_tried = λ d c tried. tried;
}

pub cuts_tail : (n : ℕ) → Fits (GrowsUpTo n) CutTail
cuts_tail n = record {
  is_done = λ f. record { more = []; pages = sym (append-nil f.main.pages); fits = λ le. le; fresh = refl; side = refl; commits = refl };
  isn't_done = λ i f. grows_none n f;
  is_tried = λ d c tried. record {
    more = [];
    pages = tried.pages ∙ sym (append-nil d.main.pages);
    fits = λ le. subst (λ (pages : List (List ℕ)). length pages ≤ n) (sym tried.pages) le;
    fresh = tried.fresh;
    side = tried.side;
    commits = tried.commits;
  };
}

pub cuts : (n : ℕ) → Fits (CutsTo n) (Cut n)
cuts n = record {
  is_done = λ f. record { to = n; least = omega arith; pages = refl; fresh = refl; side = refl; commits = refl };
  isn't_done = λ i f. cut_none n f;
  is_tried = λ d c tried. tried;
}

pub starts : (long rest : ℕ) → Fits Fresh (Start long rest)
starts long rest = record { is_done = λ f. record { main = refl; side = refl; commits = refl }; isn't_done = λ i f. record { main = refl; side = refl; commits = refl }; is_tried = λ d c tried. tried }

pub keeps_page : (n : ℕ) (page : List ℕ) → Fits Fresh (Keep n page)
keeps_page n page = record { is_done = λ f. record { main = refl; side = refl; commits = refl }; isn't_done = λ i f. record { main = refl; side = refl; commits = refl }; is_tried = λ d c tried. tried }

pub names : Fits Names Name
names = record { is_done = λ f. record { main = refl; side = inr refl; commits = refl }; isn't_done = λ i f. record { main = refl; side = inl refl; commits = refl }; is_tried = λ d c tried. tried }

pub removes : Fits RemovesSide Remove
removes = record { is_done = λ f. record { main = refl; side = inr refl; commits = refl }; isn't_done = λ i f. record { main = refl; side = inl refl; commits = refl }; is_tried = λ d c tried. tried }

pub syncs : Fits Nothing Sync
syncs = record { is_done = λ f. refl; isn't_done = λ i f. refl; is_tried = λ d c tried. tried }

pub syncs_fresh : Fits Nothing SyncFresh
syncs_fresh = record { is_done = λ f. refl; isn't_done = λ i f. refl; is_tried = λ d c tried. tried }

pub syncs_names : Fits Nothing SyncNames
syncs_names = record { is_done = λ f. refl; isn't_done = λ i f. refl; is_tried = λ d c tried. tried }

pub syncs_fresh_log : Fits Nothing SyncFreshLog
syncs_fresh_log = record { is_done = λ f. refl; isn't_done = λ i f. refl; is_tried = λ d c tried. tried }

pub syncs_log : Fits Nothing SyncLog
syncs_log = record { is_done = λ f. refl; isn't_done = λ i f. refl; is_tried = λ d c tried. tried }

pub starts_log : (head : List ℕ) (room : ℕ) → Fits (InCommits FreshLog) (StartLog head room)
starts_log head room = record { is_done = λ f. record { main = refl; fresh = refl; side = refl; commits = refl }; isn't_done = λ i f. record { main = refl; fresh = refl; side = refl; commits = refl }; is_tried = λ d c tried. tried }

pub names_log : Fits (InCommits NamesLog) NameLog
names_log = record { is_done = λ f. record { main = refl; fresh = refl; side = refl; commits = inr refl }; isn't_done = λ i f. record { main = refl; fresh = refl; side = refl; commits = inl refl }; is_tried = λ d c tried. tried }

pub removes_log : Fits (InCommits RemovesLog) RemoveLog
removes_log = record { is_done = λ f. record { main = refl; fresh = refl; side = refl; commits = inr refl }; isn't_done = λ i f. record { main = refl; fresh = refl; side = refl; commits = inl refl }; is_tried = λ d c tried. tried }

unknown_from : (at i : ℕ) (o : Option (List ℕ)) → OnLog (Lengthens at) o (option_map (λ old. take at old ++ unknown_bytes i) o)
unknown_from at i None = refl
unknown_from at i (Some old) = (take at old ++ unknown_bytes i, refl, record { more = unknown_bytes i; spelt = refl })

pub lengthens_log : (at n : ℕ) → Fits (InCommits (ChangesLog (Lengthens at))) (LengthenLog at n)
lengthens_log at n = record { is_done = λ f. record { main = refl; fresh = refl; side = refl; commits = zeroed_log at n f.commits }; isn't_done = λ i f. record { main = refl; fresh = refl; side = refl; commits = (refl, unknown_from at i f.commits.log) }; is_tried = λ d c tried. tried }

mixes_none : (olds news : List ℕ) → length olds ≡ length news → Mixes olds news olds
mixes_none [] [] long = tt
mixes_none [] (n ∷ news) long = absurd (omega (arith, long))
mixes_none (o ∷ olds) [] long = absurd (omega (arith, long))
mixes_none (o ∷ olds) (n ∷ news) long = (inl refl, mixes_none olds news (omega (arith, long)))

mixes_unknown : (i : ℕ) (olds news : List ℕ) → length olds ≡ length news → Mixes olds news (unknown_mix i olds news)
unfolding unknown_mix
mixes_unknown i olds news long = mixes_none olds news long

unknown_inks : (at : ℕ) (bytes : List ℕ) (i : ℕ) (o : Option (List ℕ)) → OnLog (Inks at bytes) o (option_map (λ old. take at old ++ unknown_mix i (take (length bytes) (drop at old)) bytes ++ drop (at + length bytes) old) o)
unknown_inks at bytes i None = refl
unknown_inks at bytes i (Some old) = (
  take at old ++ unknown_mix i (take (length bytes) (drop at old)) bytes ++ drop (at + length bytes) old,
  refl,
  record {
    mixed = unknown_mix i (take (length bytes) (drop at old)) bytes;
    mixes = λ fits. mixes_unknown i (take (length bytes) (drop at old)) bytes (omega (arith, length-take (length bytes) (drop at old), fits, length-drop at old));
    spelt = refl;
  },
)

pub writes_log : (at : ℕ) (bytes : List ℕ) → Fits (InCommits (ChangesLog (Inks at bytes))) (WriteLog at bytes)
writes_log at bytes = record { is_done = λ f. record { main = refl; fresh = refl; side = refl; commits = written_log at bytes f.commits }; isn't_done = λ i f. record { main = refl; fresh = refl; side = refl; commits = (refl, unknown_inks at bytes i f.commits.log) }; is_tried = λ d c tried. tried }

-- the file is as long as the disk says
abbrev pub IsLong : List FileEvent → ℕ → ℕ → Type 0
IsLong events pages tail = (pages ≡ length (seen_by events).main.pages) × (tail ≡ (seen_by events).main.tail)

-- A call of a disk that was made and noted: what it does, and how its fault is counted. The disk is open in the body, and stands for what it stood for.
pub call_does : (b : Bool) (step : Files → Files → Type 0) (call : FileCall) (result : Result (Unit {0}) StoreFault) (inside old new : FileHistory) → Fits step call → Notes call inside result new → OnlyFails result → inside ≡ old → CallDoes (file_ghosts b) step old result new
call_does b step call result inside old new fits notes only view =
    subst (λ (o : FileHistory). CallDoes (file_ghosts b) step o result new) view
    (does_made b step call (is_failed result) inside new (counted inside.failures (is_failed result)) fits notes, counts b result inside new only (ap (λ (h : FileHistory). h.failures) notes))

pub call_seen : (call : FileCall) (P : Files → Files → Type 0) (result : Result (Unit {0}) StoreFault) (inside old new : FileHistory) → Notes call inside result new → inside ≡ old → ((f : Files) → P f (noted_done call f)) → OnOk result (P (all_noted old.first old.calls) (all_noted new.first new.calls))
call_seen call P result inside old new notes view so =
    subst (λ (o : FileHistory). OnOk result (P (all_noted o.first o.calls) (all_noted new.first new.calls))) view (on_done call P result inside new (counted inside.failures (is_failed result)) notes so)

pub call_moment : (b : Bool) (call : FileCall) (result : Result (Unit {0}) StoreFault) (inside old new : FileHistory) → Notes call inside result new → inside ≡ old → HasMoment (file_ghosts b) old result new
call_moment b call result inside old new notes view =
    subst (λ (o : FileHistory). HasMoment (file_ghosts b) o result new) view (has_moment b call result inside new (counted inside.failures (is_failed result)) notes)

pub call_syncs : {P : Type 0} (b : Bool) (part : Files → P) (call : FileCall) (result : Result (Unit {0}) StoreFault) (inside old new : FileHistory) → Fits Nothing call → ((seen c : Files) → noted_keeps call seen c → part c ≡ part seen) → Notes call inside result new → OnlyFails result → inside ≡ old → CallSyncs (file_ghosts b) part old result new
call_syncs b part call result inside old new fits kept notes only view =
    let does = call_does b Nothing call result inside old new fits notes only view in (
      subst (λ (o : FileHistory). OnOk result ((c : Files) → NotedMayLeave new.first new.calls c → part c ≡ part (all_noted o.first o.calls))) view
          (on_kept call (λ seen c. part c ≡ part seen) result inside new (counted inside.failures (is_failed result)) notes kept),
      does.0,
      does.1,
      call_moment b call result inside old new notes view,
    )

-- the same of a call that appends to the log
pub append_does : (b : Bool) (step : Files → Files → Type 0) (call : FileCall) (result : Result (Unit {0}) StoreFault) (inside old new : FileHistory) → Fits step call → new ≡ with_noted inside (is_failed result) call → OnlyFails result → inside ≡ old → AppendDoes (file_ghosts b) step old result new
append_does b step call result inside old new fits notes only view =
    subst (λ (o : FileHistory). AppendDoes (file_ghosts b) step o result new) view
    (does_made b step call (is_failed result) inside new inside.failures fits notes, ap (λ (h : FileHistory). h.failures) notes, no_memory result only)

pub append_seen : (call : FileCall) (P : Files → Files → Type 0) (result : Result (Unit {0}) StoreFault) (inside old new : FileHistory) → new ≡ with_noted inside (is_failed result) call → inside ≡ old → ((f : Files) → P f (noted_done call f)) → OnOk result (P (all_noted old.first old.calls) (all_noted new.first new.calls))
append_seen call P result inside old new notes view so =
    subst (λ (o : FileHistory). OnOk result (P (all_noted o.first o.calls) (all_noted new.first new.calls))) view (on_done call P result inside new inside.failures notes so)

pub append_kept : (call : FileCall) (P : Files → Files → Type 0) (result : Result (Unit {0}) StoreFault) (inside old new : FileHistory) → new ≡ with_noted inside (is_failed result) call → inside ≡ old → ((seen c : Files) → noted_keeps call seen c → P seen c) → OnOk result ((c : Files) → NotedMayLeave new.first new.calls c → P (all_noted old.first old.calls) c)
append_kept call P result inside old new notes view so =
    subst (λ (o : FileHistory). OnOk result ((c : Files) → NotedMayLeave new.first new.calls c → P (all_noted o.first o.calls) c)) view (on_kept call P result inside new inside.failures notes so)

pub append_moment : (b : Bool) (call : FileCall) (result : Result (Unit {0}) StoreFault) (inside old new : FileHistory) → new ≡ with_noted inside (is_failed result) call → inside ≡ old → HasMoment (file_ghosts b) old result new
append_moment b call result inside old new notes view =
    subst (λ (o : FileHistory). HasMoment (file_ghosts b) o result new) view (has_moment b call result inside new inside.failures notes)

-- nothing is claimed of what is read
pub not_steady : {P : Type 0} → IsTrue gives_back → P
unfolding gives_back
not_steady steady = absurd (false≢true steady)

-- a disk that was just opened
pub opened_long : (events : List FileEvent) (pages tail : ℕ) → events ≡ Opened pages tail ∷ [] → IsLong events pages tail
unfolding files_found
opened_long events pages tail is = subst (λ es. IsLong es pages tail) (sym is) (sym (length-replicate pages blank), refl)

-- the tail is cut off, or there was none
abbrev pub TailCut : Result (Unit {0}) StoreFault → FileHistory → FileHistory → Type 0
TailCut result old mid = Notes CutTail old result mid ⊎ (Refuses old result mid ⊎ ((is_failed result ≡ false) × (mid ≡ old)))

tail_does : (b : Bool) (n : ℕ) (result : Result (Unit {0}) StoreFault) (old mid : FileHistory) → TailCut result old mid → Does (file_ghosts b) (GrowsUpTo n) old mid
tail_does b n result old mid (inl notes) = does_made b (GrowsUpTo n) CutTail (is_failed result) old mid (counted old.failures (is_failed result)) (cuts_tail n) notes
tail_does b n result old mid (inr (inl refuses)) = does_none b (GrowsUpTo n) old mid (counted old.failures true) (grows_none n) refuses.1
tail_does b n result old mid (inr (inr same)) = does_none b (GrowsUpTo n) old mid old.failures (grows_none n) same.1

tail_failures : (result : Result (Unit {0}) StoreFault) (old mid : FileHistory) → TailCut result old mid → mid.failures ≡ counted old.failures (is_failed result)
tail_failures result old mid (inl notes) = ap (λ (h : FileHistory). h.failures) notes
tail_failures result old mid (inr (inl refuses)) = ap (λ (h : FileHistory). h.failures) refuses.1 ∙ ap (λ k. counted old.failures k) (sym refuses.0)
tail_failures result old mid (inr (inr same)) = ap (λ (h : FileHistory). h.failures) same.1 ∙ ap (λ k. counted old.failures k) (sym same.0)

same_pages : (failed : Bool) (i : ℕ) (f : Files) → (after_noted i failed CutTail f).main.pages ≡ f.main.pages
same_pages false i f = refl
same_pages true i f = refl

pub tail_pages : (result : Result (Unit {0}) StoreFault) (old mid : FileHistory) → TailCut result old mid → (all_noted mid.first mid.calls).main.pages ≡ (all_noted old.first old.calls).main.pages
tail_pages result old mid (inl notes) = ap (λ (h : FileHistory). (all_noted h.first h.calls).main.pages) notes ∙ same_pages (is_failed result) (length old.calls) (all_noted old.first old.calls)
tail_pages result old mid (inr (inl refuses)) = ap (λ (h : FileHistory). (all_noted h.first h.calls).main.pages) refuses.1
tail_pages result old mid (inr (inr same)) = ap (λ (h : FileHistory). (all_noted h.first h.calls).main.pages) same.1

-- a call that sets the length, or that was refused
abbrev pub Sets : FileCall → Result (Unit {0}) StoreFault → FileHistory → FileHistory → Type 0
Sets call result old new = Notes call old result new ⊎ Refuses old result new

sets_does : (b : Bool) (step : Files → Files → Type 0) (call : FileCall) (result : Result (Unit {0}) StoreFault) (old new : FileHistory) → Fits step call → ((d : Files) → step d d) → Sets call result old new → Does (file_ghosts b) step old new
sets_does b step call result old new fits none (inl notes) = does_made b step call (is_failed result) old new (counted old.failures (is_failed result)) fits notes
sets_does b step call result old new fits none (inr refuses) = does_none b step old new (counted old.failures true) none refuses.1

pub sets_failures : (call : FileCall) (result : Result (Unit {0}) StoreFault) (old new : FileHistory) → Sets call result old new → new.failures ≡ counted old.failures (is_failed result)
sets_failures call result old new (inl notes) = ap (λ (h : FileHistory). h.failures) notes
sets_failures call result old new (inr refuses) = ap (λ (h : FileHistory). h.failures) refuses.1 ∙ ap (λ k. counted old.failures k) (sym refuses.0)

pub sets_seen : (call : FileCall) (P : Files → Files → Type 0) (result : Result (Unit {0}) StoreFault) (old new : FileHistory) → Sets call result old new → ((f : Files) → P f (noted_done call f)) → OnOk result (P (all_noted old.first old.calls) (all_noted new.first new.calls))
sets_seen call P result old new (inl notes) so = on_done call P result old new (counted old.failures (is_failed result)) notes so
sets_seen call P (Ok x) old new (inr refuses) so = absurd (false≢true refuses.0)
sets_seen call P (Err fault) old new (inr refuses) so = tt

pub cut_does : (b : Bool) (n : ℕ) (result : Result (Unit {0}) StoreFault) (old new : FileHistory) → Sets (Cut n) result old new → OnlyFails result → CallDoes (file_ghosts b) (CutsTo n) old result new
cut_does b n result old new sets only = (sets_does b (CutsTo n) (Cut n) result old new (cuts n) (cut_none n) sets, counts b result old new only (sets_failures (Cut n) result old new sets))

grow_still : (n : ℕ) (result : Result (Unit {0}) StoreFault) (mid new : FileHistory) → Sets (Grow n) result mid new → (c : Files) → NotedMayLeave mid.first mid.calls c → NotedMayLeave new.first new.calls c
grow_still n result mid new (inl notes) = still_made (Grow n) (is_failed result) mid new (counted mid.failures (is_failed result)) notes (grows_still n (is_failed result))
grow_still n result mid new (inr refuses) = still_none mid new (counted mid.failures true) refuses.1

-- the tail is cut off, and then the file grows
pub grow_does : (b : Bool) (n : ℕ) (cut result : Result (Unit {0}) StoreFault) (old mid new : FileHistory) → is_failed cut ≡ false → TailCut cut old mid → Sets (Grow n) result mid new → OnlyFails result → CallDoes (file_ghosts b) (GrowsUpTo n) old result new
grow_does b n cut result old mid new ok tail sets only = (
  does_both b (GrowsUpTo n) old mid new (grows_both n) (grow_still n result mid new sets) (tail_does b n cut old mid tail) (sets_does b (GrowsUpTo n) (Grow n) result mid new (grows n) (grows_none n) sets),
  counts b result old new only (sets_failures (Grow n) result mid new sets ∙ ap (λ k. counted k (is_failed result)) (tail_failures cut old mid tail ∙ ap (λ k. counted old.failures k) ok)),
)

pub tail_fails : (b : Bool) (n : ℕ) (cut : Result (Unit {0}) StoreFault) (old mid : FileHistory) → TailCut cut old mid → OnlyFails cut → CallDoes (file_ghosts b) (GrowsUpTo n) old cut mid
tail_fails b n cut old mid tail only = (tail_does b n cut old mid tail, counts b cut old mid only (tail_failures cut old mid tail))
