use Rattle.std.proofs.Common.{inr, ℕ, ap, subst}
use Rattle.rec_types.specs.LimitBounds.{Bounds}
use Rattle.recfile.specs.FilesAt.{TellsOfFile, TellsRecords}
use Rattle.recfile.proofs.program.dump.Goals as goal

pub returns-clause-told : goal.returns-clause-told
returns-clause-told g c =
    let held = g.W.Write.contents c.args.out.now in
    let holds = g.W.Write.contents c.dump_in-store.new.out in
    subst (λ (n : ℕ). TellsOfFile g.P.Pages.StoreState (g.P.PageFiles.at c.args.files.now c.args.path.now) n (TellsRecords c.args.form held holds) held holds c.dump_in-store.result.1) (ap (λ (l : Bounds). l.records) c.greatest_limits.ensures)
    (inr (record {
      opened = c.in_ok-store.store;
      found = c.in_ok-store.ensures.found;
      store = c.dump_in-store.result.0;
      closed = c.dump_in-store.ensures.closed;
      first = c.dump_in-store.ensures.first;
      silent = c.dump_in-store.ensures.silent;
      told = c.dump_in-store.ensures.dumped;
      stays = c.dump_in-store.ensures.stays;
    }))
