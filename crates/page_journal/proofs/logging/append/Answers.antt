use Rattle.std.proofs.Common.{inl}
use Rattle.page_journal.specs.Crash.{pages_of}
use Rattle.page_journal.specs.Logging.{Says, SaysEither}
use Rattle.page_journal.proofs.MomentLemmas.{then_runs, weaker}
use Rattle.page_journal.proofs.LogLemmas.{part_then}
use Rattle.page_journal.proofs.logging.append.Goals as goal

pub returns-in_default-ink-clause-pages : goal.returns-in_default-ink-clause-pages
returns-in_default-ink-clause-pages g c = part_then g.D.DiskState pages_of c.args.disk.now c.make_room.new.disk c.ink.new.disk c.make_room.ensures.pages c.ink.ensures.pages

pub returns-clause-pages : goal.returns-clause-pages
returns-clause-pages g c = part_then g.D.DiskState pages_of c.args.disk.now c.make_room.new.disk c.ink.new.disk c.make_room.ensures.pages c.ink.ensures.pages

pub returns-in_default-clause-any_moment : goal.returns-in_default-clause-any_moment
returns-in_default-clause-any_moment g c units unit ready is spelt = weaker g.D.DiskState (Says units) (SaysEither units unit) c.args.disk.now c.make_room.new.disk (λ f says. inl says) (c.make_room.ensures.any_moment units ready)

pub returns-in_default-ink-clause-any_moment : goal.returns-in_default-ink-clause-any_moment
returns-in_default-ink-clause-any_moment g c units unit ready is spelt =
    then_runs g.D.DiskState (SaysEither units unit) c.args.disk.now c.make_room.new.disk c.ink.new.disk (weaker g.D.DiskState (Says units) (SaysEither units unit) c.args.disk.now c.make_room.new.disk (λ f says. inl says) (c.make_room.ensures.any_moment units ready)) (c.ink.ensures.any_moment units unit (c.make_room.ensures.ready units ready) is spelt)

pub returns-clause-any_moment : goal.returns-clause-any_moment
returns-clause-any_moment g c units unit ready is spelt =
    then_runs g.D.DiskState (SaysEither units unit) c.args.disk.now c.make_room.new.disk c.ink.new.disk (weaker g.D.DiskState (Says units) (SaysEither units unit) c.args.disk.now c.make_room.new.disk (λ f says. inl says) (c.make_room.ensures.any_moment units ready)) (c.ink.ensures.any_moment units unit (c.make_room.ensures.ready units ready) is spelt)

pub returns-in_default-clause-no_room : goal.returns-in_default-clause-no_room
returns-in_default-clause-no_room g c units ready room = (c.make_room.ensures.ready units ready, c.make_room.ensures.any_moment units ready)
