use Rattle.std.proofs.Common.{refl, length, ◌+◌}
use Rattle.page_journal.specs.Crash.{pages_of}
use Rattle.page_journal.specs.Steps.{InCommits, FreshLog, NamesLog}
use Rattle.page_journal.proofs.LogLemmas.{part_more, part_stays}
use Rattle.page_journal.proofs.LoggingLemmas.{pages_one, pages_two, in_commits_pages, started_log, kept_start, name_start, end_start, ready_start}
use Rattle.page_journal.proofs.logging.begin_log.Goals as goal

pub returns-in_err-start_log-clause-pages : goal.returns-in_err-start_log-clause-pages
returns-in_err-start_log-clause-pages g c =
    let d = g.D.DiskState in
    let old = c.args.disk.now in
    let only = g.met.D.Disk.only_now old in
    pages_one d FreshLog old c.start_log.new.self only c.start_log.ensures.does.0

pub returns-in_err-sync_fresh_log-clause-pages : goal.returns-in_err-sync_fresh_log-clause-pages
returns-in_err-sync_fresh_log-clause-pages g c =
    let d = g.D.DiskState in
    let old = c.args.disk.now in
    let only = g.met.D.Disk.only_now old in
    pages_two d FreshLog old c.start_log.new.self c.sync_fresh_log.new.self only c.start_log.ensures.does.0 c.sync_fresh_log.ensures.1

pub returns-in_err-name_log-clause-pages : goal.returns-in_err-name_log-clause-pages
returns-in_err-name_log-clause-pages g c =
    let d = g.D.DiskState in
    let old = c.args.disk.now in
    let only = g.met.D.Disk.only_now old in
    part_more d pages_of (InCommits NamesLog) old c.sync_fresh_log.new.self c.name_log.new.self (in_commits_pages NamesLog) (pages_two d FreshLog old c.start_log.new.self c.sync_fresh_log.new.self only c.start_log.ensures.does.0 c.sync_fresh_log.ensures.1) c.name_log.ensures.does.0

pub returns-in_err-sync_names-clause-pages : goal.returns-in_err-sync_names-clause-pages
returns-in_err-sync_names-clause-pages g c =
    let d = g.D.DiskState in
    let old = c.args.disk.now in
    let only = g.met.D.Disk.only_now old in
    part_stays d pages_of old c.name_log.new.self c.sync_names.new.self (part_more d pages_of (InCommits NamesLog) old c.sync_fresh_log.new.self c.name_log.new.self (in_commits_pages NamesLog) (pages_two d FreshLog old c.start_log.new.self c.sync_fresh_log.new.self only c.start_log.ensures.does.0 c.sync_fresh_log.ensures.1) c.name_log.ensures.does.0) c.sync_names.ensures.1

pub returns-clause-pages : goal.returns-clause-pages
returns-clause-pages g c =
    let d = g.D.DiskState in
    let old = c.args.disk.now in
    let only = g.met.D.Disk.only_now old in
    part_stays d pages_of old c.name_log.new.self c.sync_names.new.self (part_more d pages_of (InCommits NamesLog) old c.sync_fresh_log.new.self c.name_log.new.self (in_commits_pages NamesLog) (pages_two d FreshLog old c.start_log.new.self c.sync_fresh_log.new.self only c.start_log.ensures.does.0 c.sync_fresh_log.ensures.1) c.name_log.ensures.does.0) c.sync_names.ensures.1

pub returns-in_err-start_log-clause-any_moment : goal.returns-in_err-start_log-clause-any_moment
returns-in_err-start_log-clause-any_moment g c none unit is spelt =
    let d = g.D.DiskState in
    let old = c.args.disk.now in
    let only = g.met.D.Disk.only_now old in
    started_log d unit c.args.head.now c.args.room is spelt c.requires.some old only none c.start_log.new.self c.start_log.ensures.does.0

pub returns-in_err-sync_fresh_log-clause-any_moment : goal.returns-in_err-sync_fresh_log-clause-any_moment
returns-in_err-sync_fresh_log-clause-any_moment g c none unit is spelt =
    let d = g.D.DiskState in
    let old = c.args.disk.now in
    let only = g.met.D.Disk.only_now old in
    kept_start d unit c.args.head.now c.args.room is spelt c.requires.some old only none c.start_log.new.self c.start_log.ensures.does.0 c.sync_fresh_log.new.self c.sync_fresh_log.ensures.1

pub returns-in_err-name_log-clause-any_moment : goal.returns-in_err-name_log-clause-any_moment
returns-in_err-name_log-clause-any_moment g c none unit is spelt =
    let d = g.D.DiskState in
    let old = c.args.disk.now in
    let only = g.met.D.Disk.only_now old in
    name_start d unit c.args.head.now c.args.room is spelt c.requires.some old only none c.start_log.new.self c.start_log.ensures.does.0 c.sync_fresh_log.new.self c.sync_fresh_log.ensures.1 c.in_ok-start_log.ensures.made c.in_ok-sync_fresh_log.ensures.0 c.name_log.new.self c.name_log.ensures.does.0

pub returns-in_err-sync_names-clause-any_moment : goal.returns-in_err-sync_names-clause-any_moment
returns-in_err-sync_names-clause-any_moment g c none unit is spelt =
    let d = g.D.DiskState in
    let old = c.args.disk.now in
    let only = g.met.D.Disk.only_now old in
    end_start d unit c.args.head.now c.args.room is spelt c.requires.some old only none c.start_log.new.self c.start_log.ensures.does.0 c.sync_fresh_log.new.self c.sync_fresh_log.ensures.1 c.in_ok-start_log.ensures.made c.in_ok-sync_fresh_log.ensures.0 c.name_log.new.self c.name_log.ensures.does.0 c.sync_names.new.self c.sync_names.ensures.1

pub returns-clause-any_moment : goal.returns-clause-any_moment
returns-clause-any_moment g c none unit is spelt =
    let d = g.D.DiskState in
    let old = c.args.disk.now in
    let only = g.met.D.Disk.only_now old in
    end_start d unit c.args.head.now c.args.room is spelt c.requires.some old only none c.start_log.new.self c.start_log.ensures.does.0 c.sync_fresh_log.new.self c.sync_fresh_log.ensures.1 c.in_ok-start_log.ensures.made c.in_ok-sync_fresh_log.ensures.0 c.name_log.new.self c.name_log.ensures.does.0 c.sync_names.new.self c.sync_names.ensures.1

pub returns-clause-ready : goal.returns-clause-ready
returns-clause-ready g c none unit is spelt =
    let d = g.D.DiskState in
    let old = c.args.disk.now in
    let only = g.met.D.Disk.only_now old in
    ready_start d unit c.args.head.now c.args.room is spelt c.requires.some old only none c.start_log.new.self c.start_log.ensures.does.0 c.sync_fresh_log.new.self c.sync_fresh_log.ensures.1 c.in_ok-start_log.ensures.made c.in_ok-sync_fresh_log.ensures.0 c.name_log.new.self c.name_log.ensures.does.0 c.sync_names.new.self c.sync_names.ensures.1 c.in_ok-name_log.ensures.named c.in_ok-sync_names.ensures.0 (record { end = length c.args.head.now; long = length c.args.head.now + c.args.room }) refl refl
