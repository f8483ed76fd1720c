use Rattle.std.proofs.Common.{◌+◌, refl}
use Rattle.commit_paper.specs.Steps.{Lengthens}
use Rattle.page_journal.specs.Steps.{ChangesLog}
use Rattle.page_journal.proofs.LoggingLemmas.{pages_one, pages_two, ready_torn, ready_stays, ready_longer, says_torn, says_longer}
use Rattle.page_journal.proofs.logging.lengthen.Goals as goal

pub returns-in_err-lengthen_log-clause-pages : goal.returns-in_err-lengthen_log-clause-pages
returns-in_err-lengthen_log-clause-pages g c = pages_one g.D.DiskState (ChangesLog (Lengthens c.args.place.now.long)) c.args.disk.now c.lengthen_log.new.self (g.met.D.Disk.only_now c.args.disk.now) c.lengthen_log.ensures.does.0

pub returns-in_err-sync_log-clause-pages : goal.returns-in_err-sync_log-clause-pages
returns-in_err-sync_log-clause-pages g c = pages_two g.D.DiskState (ChangesLog (Lengthens c.args.place.now.long)) c.args.disk.now c.lengthen_log.new.self c.sync_log.new.self (g.met.D.Disk.only_now c.args.disk.now) c.lengthen_log.ensures.does.0 c.sync_log.ensures.does.0

pub returns-clause-pages : goal.returns-clause-pages
returns-clause-pages g c = pages_two g.D.DiskState (ChangesLog (Lengthens c.args.place.now.long)) c.args.disk.now c.lengthen_log.new.self c.sync_log.new.self (g.met.D.Disk.only_now c.args.disk.now) c.lengthen_log.ensures.does.0 c.sync_log.ensures.does.0

pub returns-in_err-lengthen_log-clause-ready : goal.returns-in_err-lengthen_log-clause-ready
returns-in_err-lengthen_log-clause-ready g c units ready = ready_torn g.D.DiskState units c.args.place.now c.args.disk.now ready (c.args.room + 65536) c.lengthen_log.new.self c.lengthen_log.ensures.does.0

pub returns-in_err-sync_log-clause-ready : goal.returns-in_err-sync_log-clause-ready
returns-in_err-sync_log-clause-ready g c units ready =
    ready_stays g.D.DiskState units c.args.place.now c.lengthen_log.new.self (ready_torn g.D.DiskState units c.args.place.now c.args.disk.now ready (c.args.room + 65536) c.lengthen_log.new.self c.lengthen_log.ensures.does.0) c.sync_log.new.self c.sync_log.ensures.does.0

pub returns-clause-ready : goal.returns-clause-ready
returns-clause-ready g c units ready =
    ready_longer g.D.DiskState units c.args.place.now c.args.disk.now ready (c.args.room + 65536) c.lengthen_log.new.self c.lengthen_log.ensures.does.0 c.sync_log.new.self c.in_ok-lengthen_log.ensures.zeros c.sync_log.ensures.does.0 c.in_ok-sync_log.ensures.kept (c.args.place.now.long + (c.args.room + 65536)) refl

pub returns-in_err-lengthen_log-clause-any_moment : goal.returns-in_err-lengthen_log-clause-any_moment
returns-in_err-lengthen_log-clause-any_moment g c units ready = says_torn g.D.DiskState units c.args.place.now c.args.disk.now ready (c.args.room + 65536) c.lengthen_log.new.self c.lengthen_log.ensures.does.0 (g.met.D.Disk.only_now c.args.disk.now)

pub returns-in_err-sync_log-clause-any_moment : goal.returns-in_err-sync_log-clause-any_moment
returns-in_err-sync_log-clause-any_moment g c units ready = says_longer g.D.DiskState units c.args.place.now c.args.disk.now ready (c.args.room + 65536) c.lengthen_log.new.self c.lengthen_log.ensures.does.0 (g.met.D.Disk.only_now c.args.disk.now) c.sync_log.new.self c.sync_log.ensures.does.0

pub returns-clause-any_moment : goal.returns-clause-any_moment
returns-clause-any_moment g c units ready = says_longer g.D.DiskState units c.args.place.now c.args.disk.now ready (c.args.room + 65536) c.lengthen_log.new.self c.lengthen_log.ensures.does.0 (g.met.D.Disk.only_now c.args.disk.now) c.sync_log.new.self c.sync_log.ensures.does.0
