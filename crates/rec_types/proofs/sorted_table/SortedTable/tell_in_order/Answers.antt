use Rattle.std.proofs.Common.{◌<◌, All, length, map, ap, subst, sym, ◌∙◌}
use Rattle.std.specs.FinMap as maps
use Rattle.std.specs.Map.{keys_of}
use Rattle.std.proofs.lemmas.List.{length-map}
use Rattle.rec_types.specs.KeyOrder.{IsOrderOf}
use Rattle.rec_types.specs.Sorted.{SortedState, pair_at}
use Rattle.rec_types.proofs.KeyOrderLemmas.{within, listed}
use Rattle.rec_types.proofs.SinkLemmas.{told_pairs}
use Rattle.rec_types.proofs.sorted_table.SortedTable.tell_in_order.Goals as goal

pub tell_places-requires : goal.tell_places-requires
tell_places-requires g c =
    let es = c.self.inside.records in
    let order : IsOrderOf (keys_of es) c.deref.result.now = subst (IsOrderOf (keys_of es)) (sym c.deref.ensures.value) (subst (λ ks. IsOrderOf ks c.put_in_order.new.places.items) (c.keys.ensures) c.in_ok-put_in_order.ensures.ok) in
    subst (λ n. All (λ place. place < n) c.deref.result.now) (length-map es (λ e. e.0)) (within (length (keys_of es)) c.deref.result.now order.all)

pub returns-clause-ok : goal.returns-clause-ok
returns-clause-ok g c =
    let es = c.self.inside.records in
    let order : IsOrderOf (keys_of es) c.deref.result.now = subst (IsOrderOf (keys_of es)) (sym c.deref.ensures.value) (subst (λ ks. IsOrderOf ks c.put_in_order.new.places.items) (c.keys.ensures) c.in_ok-put_in_order.ensures.ok) in
    told_pairs (λ es. g.K.RecordSink.told c.args.sink.now c.args.out.now es c.tell_places.new.sink c.tell_places.new.out) (λ es fault. g.K.RecordSink.stops c.args.sink.now c.args.out.now es fault c.tell_places.new.sink c.tell_places.new.out)
    (map (pair_at es) c.deref.result.now) (maps.entries c.args.self.now.contents) c.tell_places.result
    (listed es c.deref.result.now c.self.invariant.unique order ∙ ap (λ (s : SortedState). maps.entries s.contents) c.self.view_is) c.tell_places.ensures
