use Rattle.std.proofs.Common.{OnOk, Result, sym, subst}
use Rattle.btree_delete.specs.TableView.{table_contents}
use Rattle.file_session.specs.Beside.{LeavesEnded}
use Rattle.file_session.specs.CallsOut.{LastsAlone}
use Rattle.file_session.specs.declared.file_fault.FileFault.{FileFault}
use Rattle.file_session.proofs.CallsOutLemmas.{alone_out, fronts_out}
use Rattle.file_session.proofs.calls_out.close_beside_calls.Goals as goal

pub returns-clause-fronts : goal.returns-clause-fronts
returns-clause-fronts c steady =
    fronts_out c.close_beside-disk.result.0 c.out_of.result.disk c.out_of.ensures.told
    (LeavesEnded c.args.table.pages.opening c.args.table.tree.order (table_contents c.args.table)) (c.close_beside-disk.ensures.any_moment steady)

pub returns-clause-lasts : goal.returns-clause-lasts
returns-clause-lasts c steady =
    subst (λ (r : Result (Unit {0}) FileFault). OnOk r (LastsAlone c.args.table.tree.order (table_contents c.args.table) c.out_of.result.disk)) (sym c.out_of.ensures.done)
    (alone_out c.close_beside-disk.result.0 c.out_of.result.disk c.out_of.ensures.told c.args.table.tree.order (table_contents c.args.table) c.close_beside-disk.result.1 (c.close_beside-disk.ensures.settled steady))
