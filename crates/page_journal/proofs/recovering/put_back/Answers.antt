use Rattle.std.proofs.Common.{◌≡◌, ◌∙◌, ap, sym, subst, arith, ℕ, List, take, Some, IsTrue}
use Rattle.page_journal.specs.Files.{PageFile, SideFile, restored, put_back}
use Rattle.page_journal.specs.Steps.{side_shape}
use Rattle.page_journal.specs.Crash.{IsSettled, IsSealed}
use Rattle.page_journal.proofs.RestoreLemmas.{cut_is, restores_same}
use Rattle.page_journal.proofs.RunLemmas.{Holds, back_time, holds_begin, holds_cut, holds_then}
use Rattle.page_journal.proofs.PuttingLemmas.{shape_parts}
use Rattle.page_journal.proofs.recovering.put_back.Given as given
use Rattle.page_journal.proofs.LogLemmas.{logs_begin, logs_cut, logs_then}
use Rattle.page_journal.proofs.recovering.put_back.Goals as goal
use Rattle.page_journal.proofs.recovering.put_back.Goals.{After-cut, After-put_pages, In_ok-put_pages}

module _ (g : given.Over) (c : After-cut g) (kept : SideFile) (base : List (List ℕ)) (shape : side_shape (Some kept) ≡ Some c.args.side) (sealed : IsSealed g.D.DiskState kept base c.args.disk.now) where
  cut_down : Holds g.D.DiskState kept base c.args.disk.now c.cut.new.self
  cut_down =
      let d = g.D.DiskState in
      let old = c.args.disk.now in
      holds_cut d kept base c.args.side.long old old c.cut.new.self (holds_begin d kept base old (g.met.D.Disk.only_now old) sealed) (omega (arith, (shape_parts kept c.args.side shape).0)) c.cut.ensures.does.0

module _ (g : given.Over) (c : After-put_pages g) (st : IsTrue (g.D.DiskState.steady c.args.disk.now)) (kept : SideFile) (base : List (List ℕ)) (shape : side_shape (Some kept) ≡ Some c.args.side) (cut : Holds g.D.DiskState kept base c.args.disk.now c.cut.new.self) where
  put_down : Holds g.D.DiskState kept base c.args.disk.now c.put_pages.new.disk
  put_down =
      let parts = shape_parts kept c.args.side shape in
      let put = c.put_pages.ensures.put (c.cut.ensures.does.0.steady ∙ st) kept base parts.0 parts.1 cut.sealed in
      holds_then g.D.DiskState kept base c.args.disk.now c.cut.new.self c.put_pages.new.disk cut put.sealed put.time

-- what is seen when all are put back is the old file
module _ (g : given.Over) (c : In_ok-put_pages g) (st : IsTrue (g.D.DiskState.steady c.args.disk.now)) (kept : SideFile) (base : List (List ℕ)) (shape : side_shape (Some kept) ≡ Some c.args.side) (sealed : IsSealed g.D.DiskState kept base c.args.disk.now) (cut : Holds g.D.DiskState kept base c.args.disk.now c.cut.new.self) where
  whole : (g.D.DiskState.seen c.put_pages.new.disk).main ≡ restored kept base
  whole =
      let d = g.D.DiskState in
      let was = (d.seen c.args.disk.now).main.pages in
      let parts = shape_parts kept c.args.side shape in
      let put = c.in_ok-put_pages.ensures.put (c.cut.ensures.does.0.steady ∙ st) kept base parts.0 parts.1 cut.sealed in
      let is_cut : (d.seen c.cut.new.self).main.pages ≡ take kept.long was =
      cut_is c.args.side.long c.cut.ensures.does.0.seen.to was (d.seen c.cut.new.self).main.pages c.cut.ensures.does.0.seen.least c.cut.ensures.does.0.seen.pages c.in_ok-cut.ensures.long ∙ ap (λ n. take n was) (sym parts.0) in
      let pages : (d.seen c.put_pages.new.disk).main.pages ≡ put_back kept.pages (take kept.long was) = put.put ∙ ap (put_back kept.pages) is_cut in
      let tail : (d.seen c.put_pages.new.disk).main.tail ≡ 0 = c.in_ok-put_pages.ensures.tail ∙ c.in_ok-cut.ensures.tail in
      let same : (d.seen c.put_pages.new.disk).main ≡ restored kept was = λ i. record { pages = pages i; tail = tail i } in
      same ∙ restores_same kept base was sealed.main

pub returns-in_err-cut-clause-any_moment : goal.returns-in_err-cut-clause-any_moment
returns-in_err-cut-clause-any_moment g c = λ st kept base shape sealed. (cut_down g (goal.at.returns-in_err-cut-clause-any_moment g c).After-cut kept base shape sealed).time

pub returns-in_err-put_pages-clause-any_moment : goal.returns-in_err-put_pages-clause-any_moment
returns-in_err-put_pages-clause-any_moment g c = λ st kept base shape sealed.
    let cut = cut_down g (goal.at.returns-in_err-put_pages-clause-any_moment g c).After-cut kept base shape sealed in
    (put_down g (goal.at.returns-in_err-put_pages-clause-any_moment g c).After-put_pages st kept base shape cut).time

pub returns-in_err-commit-clause-any_moment : goal.returns-in_err-commit-clause-any_moment
returns-in_err-commit-clause-any_moment g c = λ st kept base shape sealed.
    let at = goal.at.returns-in_err-commit-clause-any_moment g c in
    let cut = cut_down g at.After-cut kept base shape sealed in
    let put = put_down g at.After-put_pages st kept base shape cut in
    back_time g.D.DiskState kept base _ _ _ _ (whole g at.In_ok-put_pages st kept base shape sealed cut) put.time (c.commit.ensures.any_moment kept base put.sealed)

pub returns-clause-any_moment : goal.returns-clause-any_moment
returns-clause-any_moment g c = λ st kept base shape sealed.
    let at = goal.at.returns-clause-any_moment g c in
    let cut = cut_down g at.After-cut kept base shape sealed in
    let put = put_down g at.After-put_pages st kept base shape cut in
    back_time g.D.DiskState kept base _ _ _ _ (whole g at.In_ok-put_pages st kept base shape sealed cut) put.time (c.commit.ensures.any_moment kept base put.sealed)

pub returns-clause-restored : goal.returns-clause-restored
returns-clause-restored g c = λ st kept base shape sealed.
    let d = g.D.DiskState in
    let at = goal.at.returns-clause-restored g c in
    let cut = cut_down g at.After-cut kept base shape sealed in
    let put = put_down g at.After-put_pages st kept base shape cut in
    subst (λ (m : PageFile). IsSettled d m c.commit.new.disk) (whole g at.In_ok-put_pages st kept base shape sealed cut) (c.in_ok-commit.ensures.committed kept base put.sealed)

pub returns-in_err-cut-clause-logs : goal.returns-in_err-cut-clause-logs
returns-in_err-cut-clause-logs g c =
    let d = g.D.DiskState in
    let old = c.args.disk.now in
    let begun = logs_begin d old (g.met.D.Disk.only_now old) in
    logs_cut d c.args.side.long old old c.cut.new.self begun c.cut.ensures.does.0

pub returns-in_err-put_pages-clause-logs : goal.returns-in_err-put_pages-clause-logs
returns-in_err-put_pages-clause-logs g c =
    let d = g.D.DiskState in
    let old = c.args.disk.now in
    let begun = logs_begin d old (g.met.D.Disk.only_now old) in
    let cut = logs_cut d c.args.side.long old old c.cut.new.self begun c.cut.ensures.does.0 in
    logs_then d old c.cut.new.self c.put_pages.new.disk cut c.put_pages.ensures.logs

pub returns-in_err-commit-clause-logs : goal.returns-in_err-commit-clause-logs
returns-in_err-commit-clause-logs g c =
    let d = g.D.DiskState in
    let old = c.args.disk.now in
    let begun = logs_begin d old (g.met.D.Disk.only_now old) in
    let cut = logs_cut d c.args.side.long old old c.cut.new.self begun c.cut.ensures.does.0 in
    let put = logs_then d old c.cut.new.self c.put_pages.new.disk cut c.put_pages.ensures.logs in
    logs_then d old c.put_pages.new.disk c.commit.new.disk put c.commit.ensures.logs

pub returns-clause-logs : goal.returns-clause-logs
returns-clause-logs g c =
    let d = g.D.DiskState in
    let old = c.args.disk.now in
    let begun = logs_begin d old (g.met.D.Disk.only_now old) in
    let cut = logs_cut d c.args.side.long old old c.cut.new.self begun c.cut.ensures.does.0 in
    let put = logs_then d old c.cut.new.self c.put_pages.new.disk cut c.put_pages.ensures.logs in
    logs_then d old c.put_pages.new.disk c.commit.new.disk put c.commit.ensures.logs
