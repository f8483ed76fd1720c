use Rattle.std.proofs.Common.{ap, subst, sym, ◌∙◌}
use Rattle.std.specs.Map.{keys_of}
use Rattle.rec_types.specs.KeyOrder.{IsOrderOf}
use Rattle.rec_types.specs.Ordered.{beside}
use Rattle.rec_types.specs.Sorted.{SortedState}
use Rattle.rec_types.proofs.sorted_table.SortedTable.nearest.Goals as goal

pub pair_beside-requires : goal.pair_beside-requires
pair_beside-requires c = record {
  unique = c.self.invariant.unique;
  order = subst (IsOrderOf (keys_of c.self.inside.records)) (sym c.deref.ensures.value) (subst (λ ks. IsOrderOf ks c.put_in_order.new.places.items) c.keys.ensures c.in_ok-put_in_order.ensures.ok);
}

pub returns-clause-ok : goal.returns-clause-ok
returns-clause-ok c = c.pair_beside.ensures ∙ ap (λ (s : SortedState). beside c.args.side s.contents c.args.gap.now) c.self.view_is
