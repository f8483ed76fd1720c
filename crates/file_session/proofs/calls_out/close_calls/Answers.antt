use Rattle.btree_delete.specs.TableView.{table_contents}
use Rattle.file_session.specs.Beside.{LeavesEitherBeside}
use Rattle.file_session.proofs.CallsOutLemmas.{fronts_out}
use Rattle.file_session.proofs.calls_out.close_calls.Goals as goal

pub returns-clause-fronts : goal.returns-clause-fronts
returns-clause-fronts c steady =
    fronts_out c.close_table-disk.result.0 c.out_of.result.disk c.out_of.ensures.told
    (LeavesEitherBeside c.args.table.pages.opening c.args.table.tree.order (table_contents c.args.table)) (c.close_table-disk.ensures.commits steady)
