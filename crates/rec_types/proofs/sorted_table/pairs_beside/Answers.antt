use Rattle.std.proofs.Common.{◌≡◌, ℕ, ◌-◌, ◌<◌, ◌≤◌, All, length, map, get_or, take, drop, true, false, List, sym, ap, subst, ◌∙◌, arith}
use Rattle.std.proofs.lemmas.List.{length-map}
use Rattle.std.proofs.lemmas.List.Elements.{All-drop, All-take}
use Rattle.std.specs.FinMap as maps
use Rattle.std.specs.List.{IsDistinct}
use Rattle.std.specs.Map.{keys_of}
use Rattle.rec_types.specs.KeyOrder.{IsOrderOf, key_at}
use Rattle.rec_types.specs.Ordered.{is_left, all_beside, from_gap}
use Rattle.rec_types.specs.Sorted.{Pairs, pair_at, same_bytes}
use Rattle.rec_types.specs.declared.gap.Gap.{Gap}
use Rattle.rec_types.specs.declared.side.Side.{Side}
use Rattle.rec_types.proofs.GapLemmas.{key_placed}
use Rattle.rec_types.proofs.InTurnLemmas.{all_beside_is}
use Rattle.rec_types.proofs.KeyOrderLemmas.{within, listed}
use Rattle.rec_types.proofs.SinkLemmas.{told_pairs, pairs_from, pairs_upto}
use Rattle.rec_types.proofs.sorted_table.pairs_beside.Goals as goal

-- the places are those of pairs
all_there : (es : Pairs) (places : List ℕ) → IsOrderOf (keys_of es) places → All (λ place. place < length es) places
all_there es places order = subst (λ (n : ℕ). All (λ place. place < n) places) (length-map es (λ e. e.0)) (within (length (keys_of es)) places order.all)

pub left_of-left-requires : goal.left_of-left-requires
left_of-left-requires g c =
    let es = c.args.records.now in
    subst (λ (ks : List (List ℕ)). All (λ place. place < length ks) c.args.places.now) (sym c.keys.ensures) (within (length (keys_of es)) c.args.places.now c.requires.order.all)

pub tell_places-requires : goal.tell_places-requires
tell_places-requires g c =
    let es = c.args.records.now in
    let places = c.args.places.now in
    All-take (λ place. place < length es) (length places - c.left_of-left.result) (drop c.left_of-left.result places) (All-drop (λ place. place < length es) c.left_of-left.result places (all_there es places c.requires.order))

pub tell_back-requires : goal.tell_back-requires
tell_back-requires g c =
    let es = c.args.records.now in
    All-take (λ place. place < length es) c.left_of-left.result c.args.places.now (all_there es c.args.places.now c.requires.order)

-- the records beside the gap, by how many lie left of it
by_left : (side : Side) (es : Pairs) (places : List ℕ) (gap : Gap) (left : ℕ) (keys : List (List ℕ)) → IsDistinct same_bytes (keys_of es) → IsOrderOf (keys_of es) places → keys ≡ keys_of es → left ≤ length places
    → (0 < left → is_left gap (key_at keys (get_or places (left - 1) 0)) ≡ true) → (left < length places → is_left gap (key_at keys (get_or places left 0)) ≡ false)
    → from_gap side (map (pair_at es) places) left ≡ all_beside side (maps.from_entries es) gap
by_left side es places gap left keys unique order keys_are few before behind =
    let list = map (pair_at es) places in
    let size : length list ≡ length places = length-map places (pair_at es) in
    all_beside_is side (maps.from_entries es) gap list left (listed es places unique order) (omega (arith, size, few))
    (λ j is.
    let one : j ≡ left - 1 = omega (arith, is) in
    ap (is_left gap) (key_placed es places j (omega (arith, is, few))) ∙ (λ i. is_left gap (key_at (sym keys_are i) (get_or places (one i) 0))) ∙ before (omega (arith, is)))
    (λ more. ap (is_left gap) (key_placed es places left (omega (arith, size, more))) ∙ (λ i. is_left gap (key_at (sym keys_are i) (get_or places left 0))) ∙ behind (omega (arith, size, more)))

pub returns-in-After : goal.returns-in-After
returns-in-After g c =
    let es = c.args.records.now in
    let places = c.args.places.now in
    let left = c.left_of-left.result in
    told_pairs (λ es. g.K.RecordSink.told c.args.sink.now c.args.out.now es c.tell_places.new.sink c.tell_places.new.out) (λ es fault. g.K.RecordSink.stops c.args.sink.now c.args.out.now es fault c.tell_places.new.sink c.tell_places.new.out)
    (map (pair_at es) (take (length places - left) (drop left places))) (all_beside c.args.side (maps.from_entries es) c.args.gap.now) c.tell_places.result
    (pairs_from es places left ∙ ap (λ (s : Side). from_gap s (map (pair_at es) places) left) (sym c.in-After.is)
    ∙ by_left c.args.side es places c.args.gap.now left c.keys.result.now c.requires.unique c.requires.order c.keys.ensures c.left_of-left.ensures.within c.left_of-left.ensures.left c.left_of-left.ensures.right)
    c.tell_places.ensures

pub returns-in-Before : goal.returns-in-Before
returns-in-Before g c =
    let es = c.args.records.now in
    let places = c.args.places.now in
    let left = c.left_of-left.result in
    told_pairs (λ es. g.K.RecordSink.told c.args.sink.now c.args.out.now es c.tell_back.new.sink c.tell_back.new.out) (λ es fault. g.K.RecordSink.stops c.args.sink.now c.args.out.now es fault c.tell_back.new.sink c.tell_back.new.out)
    _ (all_beside c.args.side (maps.from_entries es) c.args.gap.now) c.tell_back.result
    (pairs_upto es places left ∙ ap (λ (s : Side). from_gap s (map (pair_at es) places) left) (sym c.in-Before.is)
    ∙ by_left c.args.side es places c.args.gap.now left c.keys.result.now c.requires.unique c.requires.order c.keys.ensures c.left_of-left.ensures.within c.left_of-left.ensures.left c.left_of-left.ensures.right)
    c.tell_back.ensures
