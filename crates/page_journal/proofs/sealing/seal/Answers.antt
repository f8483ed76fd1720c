use Rattle.std.proofs.Common.{◌≡◌, ◌∙◌, Bool, ap, sym, subst}
use Rattle.page_journal.specs.Files.{PageFile, SideFile, Files}
use Rattle.page_journal.specs.Crash.{Gathered, KeepsMarked}
use Rattle.page_journal.proofs.RestoreLemmas.{restored_itself}
use Rattle.page_journal.proofs.PuttingLemmas.{own_of}
use Rattle.page_journal.proofs.RunLemmas.{Ready, quiet_begin, quiet_stays, quiet_fresh, quiet_then, ready, name_time, names_time, now_sealed}
use Rattle.page_journal.proofs.sealing.seal.Given as given
use Rattle.page_journal.proofs.LogLemmas.{logs_begin, logs_stays, logs_fresh, logs_names, logs_then}
use Rattle.page_journal.proofs.sealing.seal.Goals as goal
use Rattle.page_journal.proofs.sealing.seal.Goals.{After-name}
use Rattle.std.proofs.Common.{IsTrue}

module _ (g : given.Over) (c : After-name g) where
  at : IsTrue (g.D.DiskState.steady c.args.disk.now) → Ready g.D.DiskState (g.D.DiskState.seen c.args.disk.now).main c.args.disk.now c.sync_fresh.new.self
  at st =
      let d = g.D.DiskState in
      let old = c.args.disk.now in
      let main = (d.seen old).main in
      let first = quiet_stays d main old old c.sum_of_rest.new.disk (quiet_begin d main old (g.met.D.Disk.only_now old) (c.requires.settled st)) c.sum_of_rest.ensures.stays in
      let before = c.sum_of_rest.ensures.stays.steady ∙ st in
      let begun = quiet_fresh d main old c.sum_of_rest.new.disk c.start.new.self first c.start.ensures.does.0 in
      let steady = c.start.ensures.does.0.steady ∙ before in
      let all = quiet_then d main old c.start.new.self c.gather.new.disk begun (c.gather.ensures.settled steady) (c.gather.ensures.any_moment steady) in
      let got = c.in_ok-gather.ensures.kept steady in
      let fresh = c.in_ok-start.ensures.fresh in
      let gathered : Gathered main.pages (d.seen c.gather.new.disk).fresh = subst (λ (m : PageFile). Gathered m.pages (d.seen c.gather.new.disk).fresh) begun.settled.seen got.0 in
      let own = own_of main.pages c.args.marks.now (d.seen c.gather.new.disk).fresh c.in_ok-rest.rest c.requires.long gathered got.1 got.2 (got.3 ∙ ap (λ (f : SideFile). f.rest) fresh) (c.in_ok-rest.ensures.sum st) in
      ready d main old c.gather.new.disk c.sync_fresh.new.self (d.seen c.start.new.self).main all begun.settled.seen got.0 own c.sync_fresh.ensures.1 c.in_ok-sync_fresh.ensures.0

pub returns-in_err-name-clause-any_moment : goal.returns-in_err-name-clause-any_moment
returns-in_err-name-clause-any_moment g c = λ st.
    name_time g.D.DiskState _ _ _ _ c.requires.no_tail (at g (goal.at.returns-in_err-name-clause-any_moment g c).After-name st) c.name.ensures.does.0

pub returns-in_err-sync_names-clause-any_moment : goal.returns-in_err-sync_names-clause-any_moment
returns-in_err-sync_names-clause-any_moment g c = λ st.
    names_time g.D.DiskState _ _ _ _ _ c.requires.no_tail (at g (goal.at.returns-in_err-sync_names-clause-any_moment g c).After-name st) c.name.ensures.does.0 c.sync_names.ensures.1

pub returns-clause-any_moment : goal.returns-clause-any_moment
returns-clause-any_moment g c = λ st.
    names_time g.D.DiskState _ _ _ _ _ c.requires.no_tail (at g (goal.at.returns-clause-any_moment g c).After-name st) c.name.ensures.does.0 c.sync_names.ensures.1

pub returns-clause-sealed : goal.returns-clause-sealed
returns-clause-sealed g c = λ st.
    let d = g.D.DiskState in
    let main = (d.seen c.args.disk.now).main in
    let before = c.start.ensures.does.0.steady ∙ c.sum_of_rest.ensures.stays.steady ∙ st in
    let after = c.sync_fresh.ensures.1.steady ∙ c.gather.ensures.calls.0 ∙ before in
    let all = at g (goal.at.returns-clause-sealed g c).After-name st in
    let kept = (d.seen c.sync_fresh.new.self).fresh in
    let same : kept ≡ (d.seen c.gather.new.disk).fresh = ap (λ (f : Files). f.fresh) c.sync_fresh.ensures.1.seen in (
      kept,
      now_sealed d main c.args.disk.now c.sync_fresh.new.self c.name.new.self c.sync_names.new.self all c.name.ensures.does.0 c.in_ok-name.ensures.named c.sync_names.ensures.1 (λ f left. ap (λ (b : Bool × Bool). b.0) (c.in_ok-sync_names.ensures.0 f left)),
      restored_itself main kept c.requires.no_tail all.gathered.long all.gathered.pages_there,
      all.gathered.long,
      subst (λ (k : SideFile). KeepsMarked c.args.marks.now k) (sym same) (c.in_ok-gather.ensures.kept before).1,
    )

pub returns-in_err-rest-clause-logs : goal.returns-in_err-rest-clause-logs
returns-in_err-rest-clause-logs g c =
    let d = g.D.DiskState in
    let old = c.args.disk.now in
    let begun = logs_begin d old (g.met.D.Disk.only_now old) in
    logs_stays d old old c.sum_of_rest.new.disk begun c.sum_of_rest.ensures.stays

pub returns-in_err-start-clause-logs : goal.returns-in_err-start-clause-logs
returns-in_err-start-clause-logs g c =
    let d = g.D.DiskState in
    let old = c.args.disk.now in
    let begun = logs_begin d old (g.met.D.Disk.only_now old) in
    let summed = logs_stays d old old c.sum_of_rest.new.disk begun c.sum_of_rest.ensures.stays in
    logs_fresh d old c.sum_of_rest.new.disk c.start.new.self summed c.start.ensures.does.0

pub returns-in_err-gather-clause-logs : goal.returns-in_err-gather-clause-logs
returns-in_err-gather-clause-logs g c =
    let d = g.D.DiskState in
    let old = c.args.disk.now in
    let begun = logs_begin d old (g.met.D.Disk.only_now old) in
    let summed = logs_stays d old old c.sum_of_rest.new.disk begun c.sum_of_rest.ensures.stays in
    let started = logs_fresh d old c.sum_of_rest.new.disk c.start.new.self summed c.start.ensures.does.0 in
    logs_then d old c.start.new.self c.gather.new.disk started c.gather.ensures.logs

pub returns-in_err-sync_fresh-clause-logs : goal.returns-in_err-sync_fresh-clause-logs
returns-in_err-sync_fresh-clause-logs g c =
    let d = g.D.DiskState in
    let old = c.args.disk.now in
    let begun = logs_begin d old (g.met.D.Disk.only_now old) in
    let summed = logs_stays d old old c.sum_of_rest.new.disk begun c.sum_of_rest.ensures.stays in
    let started = logs_fresh d old c.sum_of_rest.new.disk c.start.new.self summed c.start.ensures.does.0 in
    let gathered = logs_then d old c.start.new.self c.gather.new.disk started c.gather.ensures.logs in
    logs_stays d old c.gather.new.disk c.sync_fresh.new.self gathered c.sync_fresh.ensures.1

pub returns-in_err-name-clause-logs : goal.returns-in_err-name-clause-logs
returns-in_err-name-clause-logs g c =
    let d = g.D.DiskState in
    let old = c.args.disk.now in
    let begun = logs_begin d old (g.met.D.Disk.only_now old) in
    let summed = logs_stays d old old c.sum_of_rest.new.disk begun c.sum_of_rest.ensures.stays in
    let started = logs_fresh d old c.sum_of_rest.new.disk c.start.new.self summed c.start.ensures.does.0 in
    let gathered = logs_then d old c.start.new.self c.gather.new.disk started c.gather.ensures.logs in
    let synced = logs_stays d old c.gather.new.disk c.sync_fresh.new.self gathered c.sync_fresh.ensures.1 in
    logs_names d old c.sync_fresh.new.self c.name.new.self synced c.name.ensures.does.0

pub returns-in_err-sync_names-clause-logs : goal.returns-in_err-sync_names-clause-logs
returns-in_err-sync_names-clause-logs g c =
    let d = g.D.DiskState in
    let old = c.args.disk.now in
    let begun = logs_begin d old (g.met.D.Disk.only_now old) in
    let summed = logs_stays d old old c.sum_of_rest.new.disk begun c.sum_of_rest.ensures.stays in
    let started = logs_fresh d old c.sum_of_rest.new.disk c.start.new.self summed c.start.ensures.does.0 in
    let gathered = logs_then d old c.start.new.self c.gather.new.disk started c.gather.ensures.logs in
    let synced = logs_stays d old c.gather.new.disk c.sync_fresh.new.self gathered c.sync_fresh.ensures.1 in
    let named = logs_names d old c.sync_fresh.new.self c.name.new.self synced c.name.ensures.does.0 in
    logs_stays d old c.name.new.self c.sync_names.new.self named c.sync_names.ensures.1

pub returns-clause-logs : goal.returns-clause-logs
returns-clause-logs g c =
    let d = g.D.DiskState in
    let old = c.args.disk.now in
    let begun = logs_begin d old (g.met.D.Disk.only_now old) in
    let summed = logs_stays d old old c.sum_of_rest.new.disk begun c.sum_of_rest.ensures.stays in
    let started = logs_fresh d old c.sum_of_rest.new.disk c.start.new.self summed c.start.ensures.does.0 in
    let gathered = logs_then d old c.start.new.self c.gather.new.disk started c.gather.ensures.logs in
    let synced = logs_stays d old c.gather.new.disk c.sync_fresh.new.self gathered c.sync_fresh.ensures.1 in
    let named = logs_names d old c.sync_fresh.new.self c.name.new.self synced c.name.ensures.does.0 in
    logs_stays d old c.name.new.self c.sync_names.new.self named c.sync_names.ensures.1
