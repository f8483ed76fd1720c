use Rattle.std.proofs.Common.{inl, inr, Err, ap, sym, subst, ◌∙◌}
use Rattle.std.specs.FinMap as maps
use Rattle.btree_delete.specs.TableView.{table_contents}
use Rattle.file_session.specs.FileFaults.{fault_of_listing}
use Rattle.recfile.specs.Tasks.{IsDump, WritesListed}
use Rattle.recfile.specs.declared.dump.DumpFault.TheVariants.{File}
use Rattle.file_session.specs.declared.file_fault.FileFault.{FileFault}
use Rattle.recfile.proofs.ReadingLemmas.{listed, told_ended, told_front, told_some, told_stopped}
use Rattle.btree_insert.proofs.ToldLemmas.{took, stopped}
use Rattle.recfile.specs.Spelled.{Stops, Took}
use Rattle.recfile.proofs.dump.dump_table.Goals as goal

pub returns-in-Ok-taken-clause-dumped : goal.returns-in-Ok-taken-clause-dumped
returns-in-Ok-taken-clause-dumped g c = λ steady.
    let held = g.W.Write.contents c.args.out.now in
    let mid = g.W.Write.contents c.tell.new.out in
    let es = maps.entries (table_contents c.args.table.now) in
    told_ended c.args.form c.in_ok-text.text c.tell.new.sink held mid (g.W.Write.contents c.end.new.out) c.in_ok-text.ensures.0 c.in_ok-text.ensures.1
    es c.end.result (took (λ xs. Took c.in_ok-text.text held xs c.tell.new.sink mid) (λ xs fault. Stops c.in_ok-text.text held xs fault mid) es c.in-Ok.taken _ c.in-Ok-taken.is (c.in-Ok.ensures.all steady)) c.end.ensures.whole c.end.ensures.stops

pub returns-in-Ok-taken-clause-written : goal.returns-in-Ok-taken-clause-written
returns-in-Ok-taken-clause-written g c =
    let held = g.W.Write.contents c.args.out.now in
    let mid = g.W.Write.contents c.tell.new.out in
    let some = c.in-Ok.ensures.some in
    listed c.args.form held (g.W.Write.contents c.end.new.out) some.0 c.end.result
    (told_ended c.args.form c.in_ok-text.text c.tell.new.sink held mid (g.W.Write.contents c.end.new.out) c.in_ok-text.ensures.0 c.in_ok-text.ensures.1
    some.0 c.end.result (took (λ xs. Took c.in_ok-text.text held xs c.tell.new.sink mid) (λ xs fault. Stops c.in_ok-text.text held xs fault mid) some.0 c.in-Ok.taken _ c.in-Ok-taken.is some.1) c.end.ensures.whole c.end.ensures.stops)

pub returns-in-Ok-clause-dumped : goal.returns-in-Ok-clause-dumped
returns-in-Ok-clause-dumped g c = λ steady.
    let held = g.W.Write.contents c.args.out.now in
    let mid = g.W.Write.contents c.tell.new.out in
    let es = maps.entries (table_contents c.args.table.now) in
    told_stopped c.args.form c.in_ok-text.text c.tell.new.sink held mid mid c.in_ok-text.ensures.0 c.in_ok-text.ensures.1
    es c.in-Err-taken.fault (stopped (λ xs. Took c.in_ok-text.text held xs c.tell.new.sink mid) (λ xs fault. Stops c.in_ok-text.text held xs fault mid) es c.in-Ok.taken c.in-Err-taken.fault c.in-Err-taken.is (c.in-Ok.ensures.all steady))

pub returns-in-Ok-clause-written : goal.returns-in-Ok-clause-written
returns-in-Ok-clause-written g c =
    let held = g.W.Write.contents c.args.out.now in
    let mid = g.W.Write.contents c.tell.new.out in
    let some = c.in-Ok.ensures.some in
    listed c.args.form held mid some.0 (Err c.in-Err-taken.fault) (told_stopped c.args.form c.in_ok-text.text c.tell.new.sink held mid mid c.in_ok-text.ensures.0 c.in_ok-text.ensures.1
    some.0 c.in-Err-taken.fault (stopped (λ xs. Took c.in_ok-text.text held xs c.tell.new.sink mid) (λ xs fault. Stops c.in_ok-text.text held xs fault mid) some.0 c.in-Ok.taken c.in-Err-taken.fault c.in-Err-taken.is some.1))

pub returns-clause-dumped : goal.returns-clause-dumped
returns-clause-dumped g c = λ steady.
    let held = g.W.Write.contents c.args.out.now in
    let holds = g.W.Write.contents c.tell.new.out in
    let told = c.in-Err.ensures.all steady in (
      inl (c.from.ensures ∙ ap fault_of_listing told.0),
      inr (told_front c.args.form c.in_ok-text.text c.tell.new.sink held holds holds c.in_ok-text.ensures.0 c.in_ok-text.ensures.1 (maps.entries (table_contents c.args.table.now)) told.1),
    )

pub returns-clause-written : goal.returns-clause-written
returns-clause-written g c =
    let held = g.W.Write.contents c.args.out.now in
    let holds = g.W.Write.contents c.tell.new.out in
    let some = c.in-Err.ensures.some in
    subst (λ (fault : FileFault). WritesListed (IsDump c.args.form) held holds (Err (File fault))) (sym c.from.ensures)
    (told_some c.args.form c.in_ok-text.text c.tell.new.sink held holds holds c.in_ok-text.ensures.0 c.in_ok-text.ensures.1 c.in-Err.fault some.0 some.1)
