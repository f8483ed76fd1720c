use Rattle.std.proofs.Common.{ap, subst, sym}
use Rattle.std.specs.Map.{keys_of}
use Rattle.rec_types.specs.KeyOrder.{IsOrderOf}
use Rattle.rec_types.specs.Ordered.{all_beside}
use Rattle.rec_types.specs.Sorted.{SortedState}
use Rattle.rec_types.proofs.SinkLemmas.{told_pairs}
use Rattle.rec_types.proofs.sorted_table.SortedTable.tell_from.Goals as goal

pub pairs_beside-requires : goal.pairs_beside-requires
pairs_beside-requires g c = record {
  unique = c.self.invariant.unique;
  order = subst (IsOrderOf (keys_of c.self.inside.records)) (sym c.deref.ensures.value) (subst (λ ks. IsOrderOf ks c.put_in_order.new.places.items) c.keys.ensures c.in_ok-put_in_order.ensures.ok);
}

pub returns-clause-ok : goal.returns-clause-ok
returns-clause-ok g c =
    told_pairs (λ es. g.K.RecordSink.told c.args.sink.now c.args.out.now es c.pairs_beside.new.sink c.pairs_beside.new.out) (λ es fault. g.K.RecordSink.stops c.args.sink.now c.args.out.now es fault c.pairs_beside.new.sink c.pairs_beside.new.out)
    _ _ c.pairs_beside.result
    (ap (λ (s : SortedState). all_beside c.args.side s.contents c.args.gap.now) c.self.view_is) c.pairs_beside.ensures
