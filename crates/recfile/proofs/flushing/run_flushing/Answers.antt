use Rattle.std.proofs.Common.{◌≡◌, suc, true, None, inl, inr}
use Rattle.recfile.specs.Flushing.{RunsTo, SessionPoint}
use Rattle.recfile.proofs.FlushingLemmas.{at_rest, flush_session, flushes, just_settled, unread_left}
use Rattle.recfile.proofs.flushing.run_flushing.Given as given
use Rattle.recfile.proofs.flushing.run_flushing.Goals as goal
use Rattle.recfile.proofs.flushing.run_flushing.Goals.{After-run_durable-end}

-- the session of a turn, from where it began to where it ended
module _ (g : given.Over) (c : After-run_durable-end g) where
  abbrev began : SessionPoint g.row.D.Denot
  began = record { disk = c.loop-turn.disk; left = g.R.CountedRead.left c.loop-turn.reader; held = g.W.CountedWrite.held c.loop-turn.out; calls = c.loop-turn.calls }

  abbrev ended : SessionPoint g.row.D.Denot
  ended = record { disk = c.run_durable-end.result.disk; left = g.R.CountedRead.left c.run_durable-end.new.reader; held = g.W.CountedWrite.held c.run_durable-end.new.out; calls = c.run_durable-end.new.calls }

  session : RunsTo g.D.DiskState c.args.manner c.args.limits began ended c.run_durable-end.result.unopened c.run_durable-end.result.unclosed c.run_durable-end.result.flushed c.run_durable-end.result.status
  session =
      let end = c.run_durable-end.result in
      let known = c.run_durable-end.ensures in
      record {
        unread = unread_left end.unopened g.R.CountedRead.left g.W.CountedWrite.held c.loop-turn.reader c.run_durable-end.new.reader c.loop-turn.out c.run_durable-end.new.out c.loop-turn.calls c.run_durable-end.new.calls end.status end.unclosed end.flushed known.unread;
        ran = known.ran;
        device = known.device;
        steady = known.steady;
        opens = known.opens;
        first = known.first;
        untouched = known.untouched;
        stopped = known.stopped;
        session = known.session;
      }

pub returns-then-not-end : goal.returns-then-not-end
returns-then-not-end g c =
    let here = (goal.at.returns-then-not-end g c).After-run_durable-end in
    record { before = c.loop-turn.invariant.0; last = began g here; flushes = c.loop-turn.invariant.1; end = inl (c.run_durable-end.result.flushed, session g here) }

flushed : (g : given.Over) (c : After-run_durable-end g) → c.run_durable-end.result.flushed ≡ true → RunsTo g.D.DiskState c.args.manner c.args.limits (began g c) (ended g c) None None true c.run_durable-end.result.status
flushed g c is = flush_session g.D.DiskState c.args.manner c.args.limits (began g c) (ended g c) c.run_durable-end.result.unopened c.run_durable-end.result.unclosed c.run_durable-end.result.flushed c.run_durable-end.result.status is (session g c)

pub begin_next-requires : goal.begin_next-requires
begin_next-requires g c =
    let here = (goal.at.begin_next-requires g c).After-run_durable-end in
    record { rest = at_rest g.D.DiskState c.args.manner c.args.limits (began g here) (ended g here) c.run_durable-end.result.status (flushed g here c.if-not-end.false) }

pub returns-in-Err : goal.returns-in-Err
returns-in-Err g c =
    let here = (goal.at.returns-in-Err g c).After-run_durable-end in
    record {
      before = c.loop-turn.invariant.0;
      last = began g here;
      flushes = c.loop-turn.invariant.1;
      end = inr (ended g here, c.run_durable-end.result.status, flushed g here c.if-not-end.false, c.in-Err.ensures.none (g.R.CountedRead.left c.run_durable-end.new.reader));
    }

pub loop-turn-preserved : goal.loop-turn-preserved
loop-turn-preserved g c =
    let here = (goal.at.loop-turn-preserved g c).After-run_durable-end in
    let next = c.in-Ok.ensures.next (g.R.CountedRead.left c.run_durable-end.new.reader) in
    let done = flushed g here c.if-not-end.false in (
      suc c.loop-turn.invariant.0,
      (began g here, c.loop-turn.invariant.1, flushes g.D.DiskState c.args.manner c.args.limits (began g here) (ended g here) c.run_durable-end.result.status done _ next),
      just_settled g.D.DiskState c.args.manner c.args.limits (began g here) (ended g here) c.run_durable-end.result.status done _ next,
    )

pub returns : goal.returns
returns g c =
    let end = c.run_durable.result in
    let known = c.run_durable.ensures in
    record {
      before = c.loop-turn.invariant.0;
      last = record { disk = c.loop-turn.disk; left = g.R.CountedRead.left c.loop-turn.reader; held = g.W.CountedWrite.held c.loop-turn.out; calls = c.loop-turn.calls };
      flushes = c.loop-turn.invariant.1;
      end = inl (
        end.flushed,
        record {
          unread = unread_left end.unopened g.R.CountedRead.left g.W.CountedWrite.held c.loop-turn.reader c.run_durable.new.reader c.loop-turn.out c.run_durable.new.out c.loop-turn.calls c.run_durable.new.calls end.status end.unclosed end.flushed known.unread;
          ran = known.ran;
          device = known.device;
          steady = known.steady;
          opens = known.opens;
          first = known.first;
          untouched = known.untouched;
          stopped = known.stopped;
          session = known.session;
        },
      );
    }
