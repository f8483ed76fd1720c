use Rattle.std.proofs.Common.{ap}
use Rattle.btree_delete.specs.Closing.{closing}
use Rattle.btree_delete.specs.TableView.{TableView, table_contents}
use Rattle.recfile_c.proofs.TryLemmas.{last_try, fronts_tried, tried_again}
use Rattle.recfile_c.proofs.closing.close_table.Goals as goal

pub returns-in-Ok : goal.returns-in-Ok
returns-in-Ok c = (
  c.just.ensures,
  record {
    closed = c.in-Ok.ensures.closed;
    idle = λ idle. (c.in-Ok.ensures.idle idle).0.pages;
    steps = c.in-Ok.ensures.journal;
    opened = λ opened ks has. (last_try c.args.table c.in-Ok.store opened ks c.in-Ok.ensures.journal has).0;
    fronts = λ ks has. fronts_tried c.args.table c.in-Ok.store ks c.in-Ok.ensures.journal has c.close.ensures.stops.fronts c.close.ensures.stops.again;
  },
)

pub returns-in-Err : goal.returns-in-Err
returns-in-Err c =
    let table = c.in-Err.ensures.fault.table in (
      c.just-in-Err.ensures,
      record {
        tree = ap (λ (t : TableView). t.tree) table;
        contents = ap table_contents table;
        steady = ap (λ (t : TableView). t.pages.steady) table;
        steps = c.in-Err.ensures.journal;
        tries = tried_again c.args.table c.in-Err.stop.table (ap closing table) c.in-Err.ensures.journal;
      },
    )
