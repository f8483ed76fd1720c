use Rattle.page_journal.specs.Crash.{pages_of}
use Rattle.page_journal.proofs.LogLemmas.{part_begin}
use Rattle.page_journal.proofs.LoggingLemmas.{says_begin}
use Rattle.page_journal.proofs.logging.make_room.Goals as goal

pub returns-then-place-gt-MOST-clause-pages : goal.returns-then-place-gt-MOST-clause-pages
returns-then-place-gt-MOST-clause-pages g c = part_begin g.D.DiskState pages_of c.args.disk.now (g.met.D.Disk.only_now c.args.disk.now)

pub returns-then-room-place-clause-pages : goal.returns-then-room-place-clause-pages
returns-then-room-place-clause-pages g c = part_begin g.D.DiskState pages_of c.args.disk.now (g.met.D.Disk.only_now c.args.disk.now)

pub returns-then-place-gt-MOST-clause-any_moment : goal.returns-then-place-gt-MOST-clause-any_moment
returns-then-place-gt-MOST-clause-any_moment g c units ready = says_begin g.D.DiskState units c.args.place.now c.args.disk.now ready (g.met.D.Disk.only_now c.args.disk.now)

pub returns-then-room-place-clause-any_moment : goal.returns-then-room-place-clause-any_moment
returns-then-room-place-clause-any_moment g c units ready = says_begin g.D.DiskState units c.args.place.now c.args.disk.now ready (g.met.D.Disk.only_now c.args.disk.now)
