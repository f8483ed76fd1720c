use Rattle.std.proofs.Common.{Result, OnOk, Ok, Err, subst, ◌∙◌}
use Rattle.std.specs.FinMap as maps
use Rattle.rec_types.specs.Contents.{Contents}
use Rattle.btree_delete.specs.TableView.{table_contents}
use Rattle.file_session.proofs.OpeningLemmas.{can_be_opened}
use Rattle.recfile.proofs.ReadingLemmas.{Told, fault_told, silent_told}
use Rattle.recfile.proofs.dump.dump_in.Goals as goal

ok_so : {E : Type 0} (answer : Result (Unit {0}) E) (P : Type 0) → P → OnOk answer P
ok_so (Ok x) P p = p
ok_so (Err e) P p = tt

pub returns-clause-closed : goal.returns-clause-closed
returns-clause-closed g c steady =
    ok_so _ _ (can_be_opened _ _ c.args.limits.records _ c.in-Ok.table.pages c.in-Ok.table.tree (c.in-Ok.ensures.found steady))

pub returns-clause-first : goal.returns-clause-first
returns-clause-first g c steady =
    fault_told c.args.form (g.W.Write.contents c.args.out.now) (g.W.Write.contents c.dump_table-dumped.new.out) (maps.entries (table_contents c.in-Ok.table)) c.dump_table-dumped.result _ _ c.args.limits.records
    (can_be_opened _ _ c.args.limits.records _ c.in-Ok.table.pages c.in-Ok.table.tree (c.in-Ok.ensures.found steady)) (c.dump_table-dumped.ensures.dumped (c.in-Ok.ensures.over.steady ∙ steady))

pub returns-clause-silent : goal.returns-clause-silent
returns-clause-silent g c steady =
    silent_told c.args.form (g.W.Write.contents c.args.out.now) (g.W.Write.contents c.dump_table-dumped.new.out) (maps.entries (table_contents c.in-Ok.table)) c.dump_table-dumped.result (c.dump_table-dumped.ensures.dumped (c.in-Ok.ensures.over.steady ∙ steady))

pub returns-clause-dumped : goal.returns-clause-dumped
returns-clause-dumped g c steady tree contents version closed few =
    subst (λ (m : Contents). Told c.args.form (g.W.Write.contents c.args.out.now) (g.W.Write.contents c.dump_table-dumped.new.out) (maps.entries m) c.dump_table-dumped.result) (c.in-Ok.ensures.reopened steady tree contents version closed few).1
    (c.dump_table-dumped.ensures.dumped (c.in-Ok.ensures.over.steady ∙ steady))
