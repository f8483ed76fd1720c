use Rattle.std.proofs.Common.{◌/◌, ◌<◌, length, map, vec_items, refl, ap, subst, sym, ◌∙◌, arith}
use Rattle.std.specs.List.{AllAdjacentBelow}
use Rattle.rec_types.specs.KeyOrder.{IsOrderOf}
use Rattle.rec_types.specs.Tags.{place_in}
use Rattle.rec_types.proofs.TagLemmas.{told_all, told_sorted}
use Rattle.rec_types.proofs.key_order.order_of.Goals as goal
use Rattle.rec_types.proofs.key_order.order_of.Goals.{then-not-are_apart+in_ok-sort-2, else-not-are_apart}

pub sort-requires-then-not-are_apart : goal.sort-requires-then-not-are_apart
sort-requires-then-not-are_apart c =
    told_all c.args.keys.now c.in_ok-tags.tags.items c.sort_unstable.new.self.items c.in_ok-places-2.places.items (omega arith) c.in_ok-tags.ensures.tags c.sort_unstable.ensures.permutation
    (c.in_ok-places-2.ensures ∙ ap (map place_in) c.deref.ensures.value)

pub returns : goal.returns
returns c = elim c.if-not-are_apart.branch [
  | then-not-are_apart+in_ok-sort-2 w ↦ subst (λ v. IsOrderOf c.args.keys.now (vec_items v)) (sym w.places-is) w.in_ok-sort-2.ensures
  | else-not-are_apart w ↦
      let keys = c.args.keys.now in
      let sorted = c.sort_unstable.new.self.items in
      let told = c.in_ok-places-2.ensures ∙ ap (map place_in) c.deref.ensures.value in
      let apart : AllAdjacentBelow (λ t u. t / 1048576 < u / 1048576) sorted (length sorted) = subst (λ ts. AllAdjacentBelow (λ t u. t / 1048576 < u / 1048576) ts (length ts)) c.deref-2.ensures.value (w.if-not-are_apart.ensures refl) in
      subst (λ v. IsOrderOf keys (vec_items v)) (sym w.places-is) (record {
        all = told_all keys c.in_ok-tags.tags.items sorted c.in_ok-places-2.places.items (omega arith) c.in_ok-tags.ensures.tags c.sort_unstable.ensures.permutation told;
        sorted = told_sorted keys c.in_ok-tags.tags.items sorted c.in_ok-places-2.places.items (omega arith) c.in_ok-tags.ensures.bytes c.in_ok-tags.ensures.tags c.sort_unstable.ensures.permutation told apart;
      })
]
