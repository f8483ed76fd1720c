use Rattle.std.proofs.Common.{◌≡◌, ℕ, ◌-◌, ◌<◌, All, length, map, get_or, List, sym, ap, subst, ◌∙◌, arith}
use Rattle.std.proofs.lemmas.List.{length-map}
use Rattle.std.specs.FinMap as maps
use Rattle.std.specs.Map.{keys_of}
use Rattle.rec_types.specs.KeyOrder.{key_at}
use Rattle.rec_types.specs.Ordered.{is_left}
use Rattle.rec_types.specs.Sorted.{pair_at}
use Rattle.rec_types.proofs.GapLemmas.{beside_is, key_placed}
use Rattle.rec_types.proofs.KeyOrderLemmas.{within, listed}
use Rattle.rec_types.proofs.sorted_table.pair_beside.Goals as goal

pub left_of-left-requires : goal.left_of-left-requires
left_of-left-requires c =
    let es = c.args.records.now in
    subst (λ (ks : List (List ℕ)). All (λ place. place < length ks) c.args.places.now) (sym c.keys.ensures) (within (length (keys_of es)) c.args.places.now c.requires.order.all)

pub pair_at_gap-requires : goal.pair_at_gap-requires
pair_at_gap-requires c =
    let es = c.args.records.now in
    record {
      places = subst (λ (n : ℕ). All (λ place. place < n) c.args.places.now) (length-map es (λ e. e.0)) (within (length (keys_of es)) c.args.places.now c.requires.order.all);
      within = c.left_of-left.ensures.within;
    }

pub returns : goal.returns
returns c =
    let es = c.args.records.now in
    let places = c.args.places.now in
    let list = map (pair_at es) places in
    let left = c.left_of-left.result in
    let size : length list ≡ length places = length-map places (pair_at es) in
    c.pair_at_gap.ensures
    ∙ beside_is c.args.side (maps.from_entries es) c.args.gap.now list left (listed es places c.requires.unique c.requires.order) (omega (arith, size, c.left_of-left.ensures.within))
    (λ j is.
    let one : j ≡ left - 1 = omega (arith, is) in
    ap (is_left c.args.gap.now) (key_placed es places j (omega (arith, is, c.left_of-left.ensures.within)))
    ∙ (λ i. is_left c.args.gap.now (key_at (sym c.keys.ensures i) (get_or places (one i) 0)))
    ∙ c.left_of-left.ensures.left (omega (arith, is)))
    (λ more.
    ap (is_left c.args.gap.now) (key_placed es places left (omega (arith, size, more)))
    ∙ (λ i. is_left c.args.gap.now (key_at (sym c.keys.ensures i) (get_or places left 0)))
    ∙ c.left_of-left.ensures.right (omega (arith, size, more)))
