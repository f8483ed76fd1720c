use Rattle.std.proofs.Common.{◌<◌, All, length, ap, subst, sym, ◌∙◌}
use Rattle.std.specs.FinMap as maps
use Rattle.std.specs.Map.{keys_of}
use Rattle.std.proofs.lemmas.List.{length-map}
use Rattle.std.proofs.lemmas.Result.{IfOk-weaker}
use Rattle.rec_types.specs.KeyOrder.{IsOrderOf}
use Rattle.rec_types.specs.Sorted.{SortedState}
use Rattle.rec_types.proofs.KeyOrderLemmas.{within, listed}
use Rattle.rec_types.proofs.sorted_table.SortedTable.in_key_order.Goals as goal

pub copied-requires : goal.copied-requires
copied-requires c =
    let es = c.self.inside.records in
    let order : IsOrderOf (keys_of es) c.deref.result.now = subst (IsOrderOf (keys_of es)) (sym c.deref.ensures.value) (subst (λ ks. IsOrderOf ks c.put_in_order.new.places.items) (c.keys.ensures) c.in_ok-put_in_order.ensures.ok) in
    subst (λ n. All (λ place. place < n) c.deref.result.now) (length-map es (λ e. e.0)) (within (length (keys_of es)) c.deref.result.now order.all)

pub returns-clause-ok : goal.returns-clause-ok
returns-clause-ok c =
    let es = c.self.inside.records in
    let order : IsOrderOf (keys_of es) c.deref.result.now = subst (IsOrderOf (keys_of es)) (sym c.deref.ensures.value) (subst (λ ks. IsOrderOf ks c.put_in_order.new.places.items) (c.keys.ensures) c.in_ok-put_in_order.ensures.ok) in
    IfOk-weaker c.copied.result _ _ (λ list is. is ∙ listed es c.deref.result.now c.self.invariant.unique order ∙ ap (λ (s : SortedState). maps.entries s.contents) c.self.view_is) c.copied.ensures
