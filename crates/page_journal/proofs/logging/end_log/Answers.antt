use Rattle.page_journal.specs.Steps.{RemovesLog}
use Rattle.page_journal.proofs.LoggingLemmas.{pages_one, pages_two}
use Rattle.page_journal.proofs.logging.end_log.Goals as goal

pub returns-in_err-remove_log-clause-pages : goal.returns-in_err-remove_log-clause-pages
returns-in_err-remove_log-clause-pages g c = pages_one g.D.DiskState RemovesLog c.args.disk.now c.remove_log.new.self (g.met.D.Disk.only_now c.args.disk.now) c.remove_log.ensures.does.0

pub returns-in_err-sync_names-clause-pages : goal.returns-in_err-sync_names-clause-pages
returns-in_err-sync_names-clause-pages g c = pages_two g.D.DiskState RemovesLog c.args.disk.now c.remove_log.new.self c.sync_names.new.self (g.met.D.Disk.only_now c.args.disk.now) c.remove_log.ensures.does.0 c.sync_names.ensures.1

pub returns-clause-pages : goal.returns-clause-pages
returns-clause-pages g c = pages_two g.D.DiskState RemovesLog c.args.disk.now c.remove_log.new.self c.sync_names.new.self (g.met.D.Disk.only_now c.args.disk.now) c.remove_log.ensures.does.0 c.sync_names.ensures.1
