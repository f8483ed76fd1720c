use Rattle.std.proofs.Common.{◌≡◌, ℕ, ◌⊎◌, IfErr, sym, subst}
use Rattle.rec_types.specs.declared.table.TableFault.TheVariants.{Device, Damaged}
use Rattle.rec_types.specs.Ordered.{all_beside}
use Rattle.rec_types.specs.Told.{TellsUntil, TellsSome}
use Rattle.btree_delete.specs.TableView.{table_contents, table_of}
use Rattle.btree_delete.proofs.TableViewLemmas.{told_on_side, told_some, looking_faults}
use Rattle.btree_delete.proofs.table.tree_table.TreeTableTable.tell_beside.Goals as goal

pub returns-clause-told : goal.returns-clause-told
returns-clause-told g c = λ steady.
    let here = table_of c.self.inside.pages c.self.inside.tree c.self.inside.limit c.self.inside.faults c.self.inside.calls in
    subst (TellsUntil (λ xs. g.K.RecordSink.told c.args.sink.now c.args.out.now xs c.tell_beside.new.sink c.tell_beside.new.out) (λ xs fault. g.K.RecordSink.stops c.args.sink.now c.args.out.now xs fault c.tell_beside.new.sink c.tell_beside.new.out) (all_beside c.args.side (table_contents c.args.self.now) c.args.gap.now)) (sym c.told-answer.ensures)
    (told_on_side (λ xs. g.K.RecordSink.told c.args.sink.now c.args.out.now xs c.tell_beside.new.sink c.tell_beside.new.out) (λ xs fault. g.K.RecordSink.stops c.args.sink.now c.args.out.now xs fault c.tell_beside.new.sink c.tell_beside.new.out) c.args.side c.args.gap.now here c.args.self.now c.tell_beside.result c.self.view_is c.self.invariant c.tell_beside.ensures.told steady).0

pub returns-clause-some : goal.returns-clause-some
returns-clause-some g c =
    subst (TellsSome (λ xs. g.K.RecordSink.told c.args.sink.now c.args.out.now xs c.tell_beside.new.sink c.tell_beside.new.out) (λ xs fault. g.K.RecordSink.stops c.args.sink.now c.args.out.now xs fault c.tell_beside.new.sink c.tell_beside.new.out)) (sym c.told-answer.ensures)
    (told_some (λ xs. g.K.RecordSink.told c.args.sink.now c.args.out.now xs c.tell_beside.new.sink c.tell_beside.new.out) (λ xs fault. g.K.RecordSink.stops c.args.sink.now c.args.out.now xs fault c.tell_beside.new.sink c.tell_beside.new.out) c.tell_beside.result c.tell_beside.ensures.some)

pub returns-clause-faults : goal.returns-clause-faults
returns-clause-faults g c =
    subst (λ r. IfErr r (λ fault. (fault ≡ Device) ⊎ ((page : ℕ) × (fault ≡ Damaged page)))) (sym c.told-answer.ensures) (looking_faults c.tell_beside.result c.tell_beside.ensures.reading.1)
