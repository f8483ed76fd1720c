use Rattle.std.proofs.Common.{rules, ◌≡◌, ◌∙◌, ap, sym, subst, ℕ, List, Option, Some, IsTrue}
use Rattle.page_journal.specs.Files.{PageFile, SideFile, Files, IsOf, restored, recovered, recovered_by}
use Rattle.page_journal.specs.Steps.{side_shape}
use Rattle.page_journal.specs.Crash.{LeavesOnly, StandsAs, FilesStandFor, IsSettled, IsAtRest, IsSealed}
use Rattle.page_journal.proofs.MomentLemmas.{then_runs, weaker}
use Rattle.page_journal.proofs.SealedLemmas.{sealed_at_rest, stands_as}
use Rattle.page_journal.proofs.RunLemmas.{Holds, holds_begin, holds_stays}
use Rattle.page_journal.proofs.PuttingLemmas.{side_cases}
use Rattle.page_journal.proofs.recovering.recover.Given as given
use Rattle.page_journal.proofs.LogLemmas.{logs_begin, logs_stays, logs_then}
use Rattle.page_journal.proofs.recovering.recover.Goals as goal
use Rattle.page_journal.proofs.recovering.recover.Goals.{After-belongs, After-put_back}

module _ (g : given.Over) (c : After-belongs g) (st : IsTrue (g.D.DiskState.steady c.args.disk.now)) where
  -- where the file was sealed, it stays so
  module _ (kept : SideFile) (base : List (List ℕ)) (sealed : IsSealed g.D.DiskState kept base c.args.disk.now) where
    asked : Holds g.D.DiskState kept base c.args.disk.now c.belongs.new.disk
    asked =
        let d = g.D.DiskState in
        let old = c.args.disk.now in
        holds_stays d kept base old c.side.new.self c.belongs.new.disk (holds_stays d kept base old old c.side.new.self (holds_begin d kept base old (g.met.D.Disk.only_now old) sealed) c.side.ensures.does.0) c.belongs.ensures.stays

module _ (g : given.Over) (c : After-put_back g) (st : IsTrue (g.D.DiskState.steady c.args.disk.now)) where
  -- and the old file is put back
  module _ (kept : SideFile) (base : List (List ℕ)) (sealed : IsSealed g.D.DiskState kept base c.args.disk.now) (run : Holds g.D.DiskState kept base c.args.disk.now c.belongs.new.disk) where
    put_time : LeavesOnly g.D.DiskState (FilesStandFor (restored kept base)) c.args.disk.now c.put_back.new.disk
    put_time =
        let shape : side_shape (Some kept) ≡ Some c.in-Some.side = ap side_shape (sym sealed.side) ∙ sym (c.in_ok-side.ensures.shape st) ∙ c.in-Some.is in
        then_runs g.D.DiskState (FilesStandFor (restored kept base)) c.args.disk.now c.belongs.new.disk c.put_back.new.disk run.time (c.put_back.ensures.any_moment (c.belongs.ensures.stays.steady ∙ c.side.ensures.does.0.steady ∙ st) kept base shape run.sealed)

-- after a restart, the file is sealed by the side file that was found
module _ (g : given.Over) (c : After-put_back g) (st : IsTrue (g.D.DiskState.steady c.args.disk.now)) (rest : IsAtRest g.D.DiskState c.args.disk.now) where
  abbrev base : List (List ℕ)
  base = (g.D.DiskState.seen c.args.disk.now).main.pages

  abbrev found : (kept : SideFile) × ((g.D.DiskState.seen c.args.disk.now).side ≡ Some kept) × (side_shape (Some kept) ≡ Some c.in-Some.side)
  found =
      let there = sym (c.in_ok-side.ensures.shape st) ∙ c.in-Some.is in
      let case = side_cases (g.D.DiskState.seen c.args.disk.now).side c.in-Some.side (sym there) in
      (case.0, case.1, ap side_shape (sym case.1) ∙ there)

  own : IsOf found.0 base
  own =
      let d = g.D.DiskState in
      let asked = c.side.ensures.does.0 in
      subst (λ (f : Files). IsOf found.0 f.main.pages) asked.seen ((c.in_ok-belongs.ensures.own (asked.steady ∙ st) found.0 (ap (λ (f : Files). f.side) asked.seen ∙ found.1) found.2).0 c.if-not-branch.false)

  sealed : IsSealed g.D.DiskState found.0 base c.args.disk.now
  sealed = sealed_at_rest g.D.DiskState found.0 c.args.disk.now rest found.1 own

  stands : restored found.0 base ≡ recovered (g.D.DiskState.seen c.args.disk.now)
  stands = sym (ap (λ (side : Option SideFile). recovered_by side (g.D.DiskState.seen c.args.disk.now).main) found.1)

  rest_time : Holds g.D.DiskState found.0 base c.args.disk.now c.belongs.new.disk → LeavesOnly g.D.DiskState (StandsAs (g.D.DiskState.seen c.args.disk.now)) c.args.disk.now c.put_back.new.disk
  rest_time run =
      let d = g.D.DiskState in
      let old = c.args.disk.now in
      weaker d (FilesStandFor (restored found.0 base)) (StandsAs (d.seen old)) old c.put_back.new.disk (λ f is. stands_as (d.seen old) f (restored found.0 base) stands is) (put_time g c st found.0 base sealed run)

pub returns-in_err-side-clause-taken_back_at_any_moment :
    goal.returns-in_err-side-clause-taken_back_at_any_moment
returns-in_err-side-clause-taken_back_at_any_moment g c = λ st kept base sealed.
    let d = g.D.DiskState in
    let old = c.args.disk.now in
    (holds_stays d kept base old old c.side.new.self (holds_begin d kept base old (g.met.D.Disk.only_now old) sealed) c.side.ensures.does.0).time

pub returns-in_err-belongs-clause-taken_back_at_any_moment :
    goal.returns-in_err-belongs-clause-taken_back_at_any_moment
returns-in_err-belongs-clause-taken_back_at_any_moment g c = λ st kept base sealed. (asked g (goal.at.returns-in_err-belongs-clause-taken_back_at_any_moment g c).After-belongs st kept base sealed).time

pub returns-then-not-branch-clause-taken_back_at_any_moment :
    goal.returns-then-not-branch-clause-taken_back_at_any_moment
returns-then-not-branch-clause-taken_back_at_any_moment g c = λ st kept base sealed. (asked g (goal.at.returns-then-not-branch-clause-taken_back_at_any_moment g c).After-belongs st kept base sealed).time

pub returns-in_err-put_back-clause-any_moment : goal.returns-in_err-put_back-clause-any_moment
returns-in_err-put_back-clause-any_moment g c = λ st rest.
    let at = goal.at.returns-in_err-put_back-clause-any_moment g c in
    let put = at.After-put_back in
    rest_time g put st rest (asked g at.After-belongs st (found g put st rest).0 (base g put st rest) (sealed g put st rest))

pub returns-in_err-put_back-clause-taken_back_at_any_moment :
    goal.returns-in_err-put_back-clause-taken_back_at_any_moment
returns-in_err-put_back-clause-taken_back_at_any_moment g c = λ st kept base sealed.
    let at = goal.at.returns-in_err-put_back-clause-taken_back_at_any_moment g c in
    put_time g at.After-put_back st kept base sealed (asked g at.After-belongs st kept base sealed)

pub returns-clause-any_moment : goal.returns-clause-any_moment
returns-clause-any_moment g c = λ st rest.
    let at = goal.at.returns-clause-any_moment g c in
    let put = at.After-put_back in
    rest_time g put st rest (asked g at.After-belongs st (found g put st rest).0 (base g put st rest) (sealed g put st rest))

pub returns-clause-taken_back_at_any_moment : goal.returns-clause-taken_back_at_any_moment
returns-clause-taken_back_at_any_moment g c = λ st kept base sealed.
    let at = goal.at.returns-clause-taken_back_at_any_moment g c in
    put_time g at.After-put_back st kept base sealed (asked g at.After-belongs st kept base sealed)

pub returns-clause-recovered : goal.returns-clause-recovered
returns-clause-recovered g c = λ st rest.
    let d = g.D.DiskState in
    let at = goal.at.returns-clause-recovered g c in
    let put = at.After-put_back in
    let run = asked g at.After-belongs st (found g put st rest).0 (base g put st rest) (sealed g put st rest) in
    subst (λ (m : PageFile). IsSettled d m c.put_back.new.disk) (stands g put st rest) (c.in_ok-put_back.ensures.restored (c.belongs.ensures.stays.steady ∙ c.side.ensures.does.0.steady ∙ st) (found g put st rest).0 (base g put st rest) (found g put st rest).2 run.sealed)

pub returns-in_err-side-clause-logs : goal.returns-in_err-side-clause-logs
returns-in_err-side-clause-logs g c =
    let d = g.D.DiskState in
    let old = c.args.disk.now in
    let begun = logs_begin d old (g.met.D.Disk.only_now old) in
    logs_stays d old old c.side.new.self begun c.side.ensures.does.0

pub returns-in_default-clause-logs : goal.returns-in_default-clause-logs
returns-in_default-clause-logs g c =
    let d = g.D.DiskState in
    let old = c.args.disk.now in
    let begun = logs_begin d old (g.met.D.Disk.only_now old) in
    logs_stays d old old c.side.new.self begun c.side.ensures.does.0

pub returns-in_err-belongs-clause-logs : goal.returns-in_err-belongs-clause-logs
returns-in_err-belongs-clause-logs g c =
    let d = g.D.DiskState in
    let old = c.args.disk.now in
    let begun = logs_begin d old (g.met.D.Disk.only_now old) in
    let sided = logs_stays d old old c.side.new.self begun c.side.ensures.does.0 in
    logs_stays d old c.side.new.self c.belongs.new.disk sided c.belongs.ensures.stays

pub returns-then-not-branch-clause-logs : goal.returns-then-not-branch-clause-logs
returns-then-not-branch-clause-logs g c =
    let d = g.D.DiskState in
    let old = c.args.disk.now in
    let begun = logs_begin d old (g.met.D.Disk.only_now old) in
    let sided = logs_stays d old old c.side.new.self begun c.side.ensures.does.0 in
    logs_stays d old c.side.new.self c.belongs.new.disk sided c.belongs.ensures.stays

pub returns-in_err-put_back-clause-logs : goal.returns-in_err-put_back-clause-logs
returns-in_err-put_back-clause-logs g c =
    let d = g.D.DiskState in
    let old = c.args.disk.now in
    let begun = logs_begin d old (g.met.D.Disk.only_now old) in
    let sided = logs_stays d old old c.side.new.self begun c.side.ensures.does.0 in
    let told = logs_stays d old c.side.new.self c.belongs.new.disk sided c.belongs.ensures.stays in
    logs_then d old c.belongs.new.disk c.put_back.new.disk told c.put_back.ensures.logs

pub returns-clause-logs : goal.returns-clause-logs
returns-clause-logs g c =
    let d = g.D.DiskState in
    let old = c.args.disk.now in
    let begun = logs_begin d old (g.met.D.Disk.only_now old) in
    let sided = logs_stays d old old c.side.new.self begun c.side.ensures.does.0 in
    let told = logs_stays d old c.side.new.self c.belongs.new.disk sided c.belongs.ensures.stays in
    logs_then d old c.belongs.new.disk c.put_back.new.disk told c.put_back.ensures.logs

pub returns-in_err-side-clause-leaves : goal.returns-in_err-side-clause-leaves
returns-in_err-side-clause-leaves g c = record {
  steady = search rules;
  began = search rules;
  failures = search rules;
}

pub returns-in_default-clause-leaves : goal.returns-in_default-clause-leaves
returns-in_default-clause-leaves g c = record {
  steady = search rules;
  began = search rules;
  failures = search rules;
}

pub returns-in_err-belongs-clause-leaves : goal.returns-in_err-belongs-clause-leaves
returns-in_err-belongs-clause-leaves g c = record {
  steady = search rules;
  began = search rules;
  failures = search rules;
}

pub returns-then-not-branch-clause-leaves : goal.returns-then-not-branch-clause-leaves
returns-then-not-branch-clause-leaves g c = record {
  steady = search rules;
  began = search rules;
  failures = search rules;
}

pub returns-in_err-put_back-clause-leaves : goal.returns-in_err-put_back-clause-leaves
returns-in_err-put_back-clause-leaves g c = record {
  steady = search rules;
  began = search rules;
  failures = search rules;
}

pub returns-clause-leaves : goal.returns-clause-leaves
returns-clause-leaves g c = record {
  steady = search rules;
  began = search rules;
  failures = search rules;
}
