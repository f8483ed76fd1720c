use Rattle.std.proofs.Common.{◌+◌, length, refl, arith}
use Rattle.commit_paper.specs.Steps.{Inks}
use Rattle.page_journal.specs.Steps.{ChangesLog}
use Rattle.page_journal.proofs.LoggingLemmas.{ink_stands, on_each, pages_one, pages_two, ready_more, stands_synced, says_inked, says_synced}
use Rattle.page_journal.proofs.logging.ink.Goals as goal

pub returns-in_err-write_log-clause-pages : goal.returns-in_err-write_log-clause-pages
returns-in_err-write_log-clause-pages g c = pages_one g.D.DiskState (ChangesLog (Inks c.args.place.now.end c.args.text.now)) c.args.disk.now c.write_log.new.self (g.met.D.Disk.only_now c.args.disk.now) c.write_log.ensures.does.0

pub returns-in_err-sync_log-clause-pages : goal.returns-in_err-sync_log-clause-pages
returns-in_err-sync_log-clause-pages g c = pages_two g.D.DiskState (ChangesLog (Inks c.args.place.now.end c.args.text.now)) c.args.disk.now c.write_log.new.self c.sync_log.new.self (g.met.D.Disk.only_now c.args.disk.now) c.write_log.ensures.does.0 c.sync_log.ensures.does.0

pub returns-clause-pages : goal.returns-clause-pages
returns-clause-pages g c = pages_two g.D.DiskState (ChangesLog (Inks c.args.place.now.end c.args.text.now)) c.args.disk.now c.write_log.new.self c.sync_log.new.self (g.met.D.Disk.only_now c.args.disk.now) c.write_log.ensures.does.0 c.sync_log.ensures.does.0

pub returns-in_err-write_log-clause-any_moment : goal.returns-in_err-write_log-clause-any_moment
returns-in_err-write_log-clause-any_moment g c units unit ready is spelt = says_inked g.D.DiskState units c.args.place.now c.args.disk.now ready unit c.args.text.now is spelt (omega (arith, c.requires.fits, ready.long)) c.write_log.new.self c.write_log.ensures.does.0 (g.met.D.Disk.only_now c.args.disk.now)

pub returns-in_err-sync_log-clause-any_moment : goal.returns-in_err-sync_log-clause-any_moment
returns-in_err-sync_log-clause-any_moment g c units unit ready is spelt = says_synced g.D.DiskState units c.args.place.now c.args.disk.now ready unit c.args.text.now is spelt (omega (arith, c.requires.fits, ready.long)) c.write_log.new.self c.write_log.ensures.does.0 (g.met.D.Disk.only_now c.args.disk.now) c.sync_log.new.self c.sync_log.ensures.does.0

pub returns-clause-any_moment : goal.returns-clause-any_moment
returns-clause-any_moment g c units unit ready is spelt = says_synced g.D.DiskState units c.args.place.now c.args.disk.now ready unit c.args.text.now is spelt (omega (arith, c.requires.fits, ready.long)) c.write_log.new.self c.write_log.ensures.does.0 (g.met.D.Disk.only_now c.args.disk.now) c.sync_log.new.self c.sync_log.ensures.does.0

pub returns-clause-done : goal.returns-clause-done
returns-clause-done g c units unit ready is spelt = ready_more g.D.DiskState units c.args.place.now c.args.disk.now ready unit c.args.text.now is spelt (omega (arith, c.requires.fits, ready.long)) c.write_log.new.self c.write_log.ensures.does.0 c.sync_log.new.self c.in_ok-write_log.ensures.written c.sync_log.ensures.does.0 c.in_ok-sync_log.ensures.kept (c.args.place.now.end + length c.args.text.now) refl

pub returns-in_err-write_log-clause-stand : goal.returns-in_err-write_log-clause-stand
returns-in_err-write_log-clause-stand g c units ready = on_each c.from_residual.result (ink_stands g.D.DiskState units c.args.place.now c.args.disk.now ready c.args.text.now c.write_log.new.self c.write_log.ensures.does.0)

pub returns-in_err-sync_log-clause-stand : goal.returns-in_err-sync_log-clause-stand
returns-in_err-sync_log-clause-stand g c units ready = on_each c.from_residual-in_err-sync_log.result (stands_synced g.D.DiskState units c.args.place.now c.args.disk.now ready c.args.text.now c.write_log.new.self c.write_log.ensures.does.0 c.sync_log.new.self c.sync_log.ensures.does.0)
