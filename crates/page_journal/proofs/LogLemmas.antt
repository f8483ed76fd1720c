-- How calls leave a part of the files.
use Rattle.std.proofs.Common.{◌≡◌, ℕ, refl, ◌∙◌, ap}
use Rattle.page_journal.specs.Files.{Files}
use Rattle.page_journal.specs.Steps.{Does, Stays, TornAt, GrowsUpTo, CutsTo, Fresh, Names, RemovesSide}
use Rattle.page_journal.specs.Crash.{LeavesPart, HasPartOf, LeavesLogs, logs_of}
use Rattle.page_journal.specs.declared.disk_state.DiskState.{Ghosts}
use Rattle.page_journal.proofs.MomentLemmas.{started, goes_on, then_runs, weaker}

module _ {D P : Type 0} (g : Ghosts D) (part : Files → P) where
  pub part_begin : (old : D) → ((c : Files) → g.left_since old (g.moment old) c → g.may_leave old c) → LeavesPart g part old old
  part_begin old only = record {
    seen = refl;
    now = λ c left. (c, left, refl);
    time = started g (HasPartOf g part old) old only (λ c left. (c, left, refl));
  }

  -- one call more, which leaves it
  pub part_more : (step : Files → Files → Type 0) (old mid new : D) → ((d c : Files) → step d c → part c ≡ part d) → LeavesPart g part old mid → Does g step mid new → LeavesPart g part old new
  part_more step old mid new same leaves does = record {
    seen = same (g.seen mid) (g.seen new) does.seen ∙ leaves.seen;
    now = now;
    time = goes_on g (HasPartOf g part old) step old mid new leaves.time does now;
  }
    where
      now : (c : Files) → g.may_leave new c → HasPartOf g part old c
      now c left =
          let from = does.crash c left in
          let was = leaves.now from.0 from.1 in
          (was.0, was.1, same from.0 c from.2 ∙ was.2)

  pub part_stays : (old mid new : D) → LeavesPart g part old mid → Stays g mid new → LeavesPart g part old new
  part_stays old mid new = part_more _ old mid new (λ d c is. ap part is)

  -- a run after another
  pub part_then : (old mid new : D) → LeavesPart g part old mid → LeavesPart g part mid new → LeavesPart g part old new
  part_then old mid new first second = record {
    seen = second.seen ∙ first.seen;
    now = λ c left. before c (second.now c left);
    time = then_runs g (HasPartOf g part old) old mid new first.time (weaker g (HasPartOf g part mid) (HasPartOf g part old) mid new before second.time);
  }
    where
      before : (c : Files) → HasPartOf g part mid c → HasPartOf g part old c
      before c has =
          let was = first.now has.0 has.1 in
          (was.0, was.1, has.2 ∙ was.2)

-- the same of the logs of commits
module _ {D : Type 0} (g : Ghosts D) where
  pub logs_begin : (old : D) → ((c : Files) → g.left_since old (g.moment old) c → g.may_leave old c) → LeavesLogs g old old
  logs_begin = part_begin g logs_of

  pub logs_stays : (old mid new : D) → LeavesLogs g old mid → Stays g mid new → LeavesLogs g old new
  logs_stays = part_stays g logs_of

  pub logs_then : (old mid new : D) → LeavesLogs g old mid → LeavesLogs g mid new → LeavesLogs g old new
  logs_then = part_then g logs_of

  pub logs_write : (n : ℕ) (old mid new : D) → LeavesLogs g old mid → Does g (TornAt n) mid new → LeavesLogs g old new
  logs_write n old mid new = part_more g logs_of (TornAt n) old mid new (λ d c step. step.commits)

  pub logs_grow : (n : ℕ) (old mid new : D) → LeavesLogs g old mid → Does g (GrowsUpTo n) mid new → LeavesLogs g old new
  logs_grow n old mid new = part_more g logs_of (GrowsUpTo n) old mid new (λ d c step. step.commits)

  pub logs_cut : (n : ℕ) (old mid new : D) → LeavesLogs g old mid → Does g (CutsTo n) mid new → LeavesLogs g old new
  logs_cut n old mid new = part_more g logs_of (CutsTo n) old mid new (λ d c step. step.commits)

  pub logs_fresh : (old mid new : D) → LeavesLogs g old mid → Does g Fresh mid new → LeavesLogs g old new
  logs_fresh old mid new = part_more g logs_of Fresh old mid new (λ d c step. step.commits)

  pub logs_names : (old mid new : D) → LeavesLogs g old mid → Does g Names mid new → LeavesLogs g old new
  logs_names old mid new = part_more g logs_of Names old mid new (λ d c step. step.commits)

  pub logs_removes : (old mid new : D) → LeavesLogs g old mid → Does g RemovesSide mid new → LeavesLogs g old new
  logs_removes old mid new = part_more g logs_of RemovesSide old mid new (λ d c step. step.commits)
