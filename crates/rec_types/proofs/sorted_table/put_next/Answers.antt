use Rattle.std.proofs.Common.{◌≡◌, ◌-◌, ◌<◌, ◌≤◌, ℕ, List, [], All, length, get_or, subst, sym, ap, ◌∙◌, arith}
use Rattle.std.proofs.lemmas.List.{get_or_default}
use Rattle.std.proofs.lemmas.List.Edits.{length-insert}
use Rattle.std.specs.List.{insert}
use Rattle.rec_types.specs.KeyOrder.{IsOrderOfFirst, key_at}
use Rattle.rec_types.specs.Ordered.{is_key_below}
use Rattle.rec_types.proofs.KeyPlaceLemmas.{placed, all_within}
use Rattle.rec_types.proofs.sorted_table.put_next.Goals as goal

pub left_of-at-requires : goal.left_of-at-requires
left_of-at-requires c = subst (λ (places : List ℕ). All (λ place. place < length c.args.keys.now) places) (sym c.deref.ensures.value) (all_within c.args.keys.now c.args.places.now.items c.requires.first)

pub returns-clause-ok : goal.returns-clause-ok
returns-clause-ok c =
    let keys = c.args.keys.now in
    let places = c.args.places.now.items in
    let at = c.left_of-at.result in
    let same : c.deref.result.now ≡ places = c.deref.ensures.value in
    let next_is : c.len-next.result ≡ length places = c.len-next.ensures ∙ sym c.deref.ensures.len ∙ ap length same in
    let key_is : c.index-keys-next.result ≡ key_at keys (length places) = c.index-keys-next.is ∙ get_or_default keys c.len-next.result c.index-keys-next.result [] (omega (arith, next_is, c.requires.more)) ∙ ap (key_at keys) next_is in
    let low : at ≤ length places = omega (arith, c.left_of-at.ensures.within, ap length same) in
    let items : c.insert.new.self.items ≡ insert places at (length places) = c.in_ok-insert.ensures.items ∙ ap (insert places at) next_is in (
      subst (IsOrderOfFirst keys) (sym items)
          (placed keys places at c.requires.first c.requires.more low
          (λ some. (λ i. is_key_below (key_at keys (get_or (sym same i) (at - 1) 0)) (sym key_is i)) ∙ c.left_of-at.ensures.left some)
          (λ more. (λ i. is_key_below (key_at keys (get_or (sym same i) at 0)) (sym key_is i)) ∙ c.left_of-at.ensures.right (omega (arith, more, ap length same)))),
      ap length items ∙ length-insert places at (length places) low,
    )
