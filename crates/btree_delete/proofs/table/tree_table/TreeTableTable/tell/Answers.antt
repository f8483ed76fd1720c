use Rattle.std.proofs.Common.{◌≡◌, ℕ, ◌⊎◌, IfErr, sym, subst}
use Rattle.std.specs.FinMap as maps
use Rattle.rec_types.specs.declared.table.TableFault.TheVariants.{Device, Damaged}
use Rattle.rec_types.proofs.SinkLemmas.{all_until}
use Rattle.rec_types.specs.Told.{TellsAll, TellsSome}
use Rattle.btree_delete.specs.TableView.{table_contents, table_of}
use Rattle.btree_delete.proofs.TableViewLemmas.{told_records, told_some, looking_faults}
use Rattle.btree_delete.proofs.table.tree_table.TreeTableTable.tell.Goals as goal

pub returns-clause-all : goal.returns-clause-all
returns-clause-all g c = λ steady.
    let here = table_of c.self.inside.pages c.self.inside.tree c.self.inside.limit c.self.inside.faults c.self.inside.calls in
    subst (TellsAll Device (λ xs. g.K.RecordSink.told c.args.sink.now c.args.out.now xs c.tell.new.sink c.tell.new.out) (λ xs fault. g.K.RecordSink.stops c.args.sink.now c.args.out.now xs fault c.tell.new.sink c.tell.new.out) (maps.entries (table_contents c.args.self.now))) (sym c.told-answer.ensures)
    (told_records (λ xs. g.K.RecordSink.told c.args.sink.now c.args.out.now xs c.tell.new.sink c.tell.new.out) (λ xs fault. g.K.RecordSink.stops c.args.sink.now c.args.out.now xs fault c.tell.new.sink c.tell.new.out) here c.args.self.now c.tell.result c.self.view_is c.self.invariant c.tell.ensures.told steady)

pub returns-clause-told : goal.returns-clause-told
returns-clause-told g c = λ steady.
    all_until Device (λ xs. g.K.RecordSink.told c.args.sink.now c.args.out.now xs c.tell.new.sink c.tell.new.out) (λ xs fault. g.K.RecordSink.stops c.args.sink.now c.args.out.now xs fault c.tell.new.sink c.tell.new.out) (maps.entries (table_contents c.args.self.now)) c.told-answer.result
    (returns-clause-all g c steady)

pub returns-clause-some : goal.returns-clause-some
returns-clause-some g c =
    subst (TellsSome (λ xs. g.K.RecordSink.told c.args.sink.now c.args.out.now xs c.tell.new.sink c.tell.new.out) (λ xs fault. g.K.RecordSink.stops c.args.sink.now c.args.out.now xs fault c.tell.new.sink c.tell.new.out)) (sym c.told-answer.ensures)
    (told_some (λ xs. g.K.RecordSink.told c.args.sink.now c.args.out.now xs c.tell.new.sink c.tell.new.out) (λ xs fault. g.K.RecordSink.stops c.args.sink.now c.args.out.now xs fault c.tell.new.sink c.tell.new.out) c.tell.result c.tell.ensures.some)

pub returns-clause-faults : goal.returns-clause-faults
returns-clause-faults g c =
    subst (λ r. IfErr r (λ fault. (fault ≡ Device) ⊎ ((page : ℕ) × (fault ≡ Damaged page)))) (sym c.told-answer.ensures) (looking_faults c.tell.result c.tell.ensures.reading.1)
