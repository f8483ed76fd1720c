use Rattle.std.proofs.Common.{inr, ℕ, sym, subst}
use Rattle.recfile.specs.Tasks.{RunsOver}
use Rattle.recfile.proofs.path_session.run_at_path.Goals as goal

pub returns-in-Ok : goal.returns-in-Ok
returns-in-Ok g c =
    let end = c.run_settled-end.result in
    subst (λ (n : ℕ). RunsOver g.P.Device.DiskState (g.P.PageFiles.at c.args.files.now c.args.path.now) c.args.durable c.args.manner c.args.limits (g.R.CountedRead.left c.args.reader.now) (g.R.CountedRead.left c.run_settled-end.new.reader) (g.W.CountedWrite.held c.args.out.now) (g.W.CountedWrite.held c.run_settled-end.new.out) c.args.calls.now c.run_settled-end.new.calls n) (sym c.end_at.ensures)
    (inr (record {
      opened = c.in-Ok.disk;
      settles = c.in-Ok.ensures.settles;
      unopened = end.unopened;
      unclosed = end.unclosed;
      disk = end.disk;
      session = c.run_settled-end.ensures;
    }))
