use Rattle.std.proofs.Common.{ap, Bool}
use Rattle.page_journal.specs.Files.{Files}
use Rattle.page_journal.proofs.RunLemmas.{holds_begin, holds_stays, either_old, remove_time, removes_time, now_settled}
use Rattle.page_journal.proofs.MomentLemmas.{three_moments}
use Rattle.page_journal.proofs.LogLemmas.{logs_begin, logs_stays, logs_removes}
use Rattle.page_journal.proofs.recovering.commit.Goals as goal

pub returns-in_err-sync-clause-any_moment : goal.returns-in_err-sync-clause-any_moment
returns-in_err-sync-clause-any_moment g c = λ kept base sealed.
    let d = g.D.DiskState in
    let old = c.args.disk.now in
    let holds = holds_stays d kept base old old c.sync.new.self (holds_begin d kept base old (g.met.D.Disk.only_now old) sealed) c.sync.ensures.1 in
    either_old d kept base (d.seen old).main old c.sync.new.self holds

pub returns-in_err-remove-clause-any_moment : goal.returns-in_err-remove-clause-any_moment
returns-in_err-remove-clause-any_moment g c = λ kept base sealed.
    let d = g.D.DiskState in
    let old = c.args.disk.now in
    let holds = holds_stays d kept base old old c.sync.new.self (holds_begin d kept base old (g.met.D.Disk.only_now old) sealed) c.sync.ensures.1 in
    remove_time d kept base (d.seen old).main old c.sync.new.self c.remove.new.self holds c.in_ok-sync.ensures.0 c.remove.ensures.does.0

pub returns-in_err-sync_names-clause-any_moment : goal.returns-in_err-sync_names-clause-any_moment
returns-in_err-sync_names-clause-any_moment g c = λ kept base sealed.
    let d = g.D.DiskState in
    let old = c.args.disk.now in
    let holds = holds_stays d kept base old old c.sync.new.self (holds_begin d kept base old (g.met.D.Disk.only_now old) sealed) c.sync.ensures.1 in
    removes_time d kept base (d.seen old).main old c.sync.new.self c.remove.new.self c.sync_names.new.self holds c.in_ok-sync.ensures.0 c.remove.ensures.does.0 c.sync_names.ensures.1

pub returns-clause-committed : goal.returns-clause-committed
returns-clause-committed g c = λ kept base sealed.
    let d = g.D.DiskState in
    let old = c.args.disk.now in
    let holds = holds_stays d kept base old old c.sync.new.self (holds_begin d kept base old (g.met.D.Disk.only_now old) sealed) c.sync.ensures.1 in
    now_settled d kept base (d.seen old).main old c.sync.new.self c.remove.new.self c.sync_names.new.self holds c.in_ok-sync.ensures.0 (ap (λ (f : Files). f.main) c.sync.ensures.1.seen) c.remove.ensures.does.0 c.in_ok-remove.ensures.gone c.sync_names.ensures.1 (λ f left. ap (λ (b : Bool × Bool). b.0) (c.in_ok-sync_names.ensures.0 f left))

pub returns-clause-any_moment : goal.returns-clause-any_moment
returns-clause-any_moment g c = λ kept base sealed.
    let d = g.D.DiskState in
    let old = c.args.disk.now in
    let holds = holds_stays d kept base old old c.sync.new.self (holds_begin d kept base old (g.met.D.Disk.only_now old) sealed) c.sync.ensures.1 in
    removes_time d kept base (d.seen old).main old c.sync.new.self c.remove.new.self c.sync_names.new.self holds c.in_ok-sync.ensures.0 c.remove.ensures.does.0 c.sync_names.ensures.1

pub returns-in_err-sync-clause-logs : goal.returns-in_err-sync-clause-logs
returns-in_err-sync-clause-logs g c =
    let d = g.D.DiskState in
    let old = c.args.disk.now in
    let begun = logs_begin d old (g.met.D.Disk.only_now old) in
    logs_stays d old old c.sync.new.self begun c.sync.ensures.1

pub returns-in_err-remove-clause-logs : goal.returns-in_err-remove-clause-logs
returns-in_err-remove-clause-logs g c =
    let d = g.D.DiskState in
    let old = c.args.disk.now in
    let begun = logs_begin d old (g.met.D.Disk.only_now old) in
    let synced = logs_stays d old old c.sync.new.self begun c.sync.ensures.1 in
    logs_removes d old c.sync.new.self c.remove.new.self synced c.remove.ensures.does.0

pub returns-in_err-sync_names-clause-logs : goal.returns-in_err-sync_names-clause-logs
returns-in_err-sync_names-clause-logs g c =
    let d = g.D.DiskState in
    let old = c.args.disk.now in
    let begun = logs_begin d old (g.met.D.Disk.only_now old) in
    let synced = logs_stays d old old c.sync.new.self begun c.sync.ensures.1 in
    let gone = logs_removes d old c.sync.new.self c.remove.new.self synced c.remove.ensures.does.0 in
    logs_stays d old c.remove.new.self c.sync_names.new.self gone c.sync_names.ensures.1

pub returns-clause-logs : goal.returns-clause-logs
returns-clause-logs g c =
    let d = g.D.DiskState in
    let old = c.args.disk.now in
    let begun = logs_begin d old (g.met.D.Disk.only_now old) in
    let synced = logs_stays d old old c.sync.new.self begun c.sync.ensures.1 in
    let gone = logs_removes d old c.sync.new.self c.remove.new.self synced c.remove.ensures.does.0 in
    logs_stays d old c.remove.new.self c.sync_names.new.self gone c.sync_names.ensures.1

pub returns-clause-moments : goal.returns-clause-moments
returns-clause-moments g c =
    let moment = g.D.DiskState.moment in
    three_moments (moment c.args.disk.now) (moment c.sync.new.self) (moment c.remove.new.self) (moment c.sync_names.new.self) c.in_ok-sync.ensures.3 c.in_ok-remove.ensures.moment c.in_ok-sync_names.ensures.3
