use Rattle.std.proofs.Common.{length, map, ap, subst, sym, ◌<◌, ◌∙◌, All}
use Rattle.std.specs.Cmp.Lexicographic.{slice_cmp}
use Rattle.std.specs.List.Sorted.{IsPermutation, IsSorted}
use Rattle.std.specs.Ordering.{nat_cmp}
use Rattle.std.proofs.lemmas.Result.{IfOk-weaker}
use Rattle.rec_types.specs.KeyOrder.{key_at}
use Rattle.rec_types.proofs.KeyOrderLemmas.{within, keys_moved}
use Rattle.tx_log.proofs.key_order.in_order.Goals as goal

pub keys_at-requires : goal.keys_at-requires
keys_at-requires c = subst (All (λ place. place < length c.args.keys.now)) (sym c.deref.ensures.value) (within (length c.args.keys.now) c.in_ok-places.places.items c.in_ok-places.ensures.all)

pub returns-clause-permutation : goal.returns-clause-permutation
returns-clause-permutation c =
    IfOk-weaker c.keys_at.result _ _ (λ told is. subst (IsPermutation c.args.keys.now) (ap (map (key_at c.args.keys.now)) (sym c.deref.ensures.value) ∙ sym is) (keys_moved c.args.keys.now c.in_ok-places.places.items c.in_ok-places.ensures.all)) c.keys_at.ensures

pub returns-clause-sorted : goal.returns-clause-sorted
returns-clause-sorted c =
    IfOk-weaker c.keys_at.result _ _ (λ told is. subst (IsSorted (slice_cmp nat_cmp)) (ap (map (key_at c.args.keys.now)) (sym c.deref.ensures.value) ∙ sym is) c.in_ok-places.ensures.sorted) c.keys_at.ensures
