use Rattle.std.proofs.Common.{◌≡◌, ℕ, [], ◌∷◌, ◌++◌, List, refl, sym, ap, subst, ◌∙◌}
use Rattle.btree_node.specs.Lists.{Element}
use Rattle.rec_types.specs.Ordered.{listed_one, from_gap}
use Rattle.btree_insert.proofs.telling.tell_from.Goals as goal

pub returns-in_ok-take-in-Some : goal.returns-in_ok-take-in-Some
returns-in_ok-take-in-Some g c = λ m can is.
    let first = from_gap c.args.side m.elements.items c.args.gap in
    let told = λ (xs : List Element). g.K.RecordSink.told c.args.sink.now c.args.out.now xs c.take.new.self c.take.new.out in
    let x : Element = (c.in-Some.key, c.bytes.result.now) in
    let same : x ∷ [] ≡ listed_one c.args.passed.now = ap (λ (v : List ℕ). (c.in-Some.key, v) ∷ []) c.bytes.ensures.value ∙ ap listed_one (sym c.in-Some.is) in
    let on = g.met.K.RecordSink.told_on c.args.sink.now c.tell_side.new.sink c.take.new.self c.args.out.now c.tell_side.new.out c.take.new.out first (x ∷ []) (c.in_ok-tell_side.ensures m can is) c.in_ok-take-in-Some.ensures in (
      subst (λ (xs : List Element). told (first ++ xs)) same on,
      (first, x, ap (λ (xs : List Element). first ++ xs) (sym same), refl),
    )
