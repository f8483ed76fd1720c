use Rattle.std.proofs.Common.{ℕ, ◌+◌, ◌<◌, List, [], ◌∷◌, ◌++◌, length, take, drop, ap, sym, subst, arith}
use Rattle.std.proofs.lemmas.Result.{err_from_is_err_and}
use Rattle.btree_node.specs.Lists.{Element}
use Rattle.btree_insert.proofs.ToldLemmas.{one_more, all_of}
use Rattle.btree_insert.proofs.walking.tell_elements.Goals as goal

pub returns-in_err-take : goal.returns-in_err-take
returns-in_err-take g c =
    let p = err_from_is_err_and c.from_residual.result c.from_residual.ensures.1 in
    let es = c.args.elements.now in
    let i = c.loop-key.key-index in
    let x : Element = c.loop-key-item.result in
    let below : i < length es = omega arith in
    let stop = subst (λ zs. g.K.RecordSink.stops c.loop-key.sink c.loop-key.out zs c.in_err-take.field-0.0 c.take.new.self c.take.new.out) (ap (λ (r : List ℕ). let one : List Element = (x.0, r) ∷ [] in one) c.bytes.ensures.value) c.in_err-take.ensures in
    let named = subst (λ fault. g.K.RecordSink.stops c.loop-key.sink c.loop-key.out (x ∷ []) fault c.take.new.self c.take.new.out) (sym p.2) stop in
    let until = g.met.K.RecordSink.stops_on c.args.sink.now c.loop-key.sink c.take.new.self c.args.out.now c.loop-key.out c.take.new.out (take i es) (x ∷ []) p.0 c.loop-key.invariant named in
    let all = g.met.K.RecordSink.stops_before c.args.sink.now c.take.new.self c.args.out.now c.take.new.out (take i es ++ x ∷ []) (drop (i + 1) es) p.0 until in
    rw p.1 (subst (λ zs. g.K.RecordSink.stops c.args.sink.now c.args.out.now zs p.0 c.take.new.self c.take.new.out) (all_of es i x below c.loop-key-item.is) all)

pub loop-key-preserved : goal.loop-key-preserved
loop-key-preserved g c =
    let es = c.args.elements.now in
    let i = c.loop-key.key-index in
    let x : Element = c.loop-key-item.result in
    let below : i < length es = omega arith in
    let one = subst (λ zs. g.K.RecordSink.told c.loop-key.sink c.loop-key.out zs c.take.new.self c.take.new.out) (ap (λ (r : List ℕ). let one : List Element = (x.0, r) ∷ [] in one) c.bytes.ensures.value) c.in_ok-take.ensures in
    subst (λ zs. g.K.RecordSink.told c.args.sink.now c.args.out.now zs c.take.new.self c.take.new.out) (one_more es i x below c.loop-key-item.is)
    (g.met.K.RecordSink.told_on c.args.sink.now c.loop-key.sink c.take.new.self c.args.out.now c.loop-key.out c.take.new.out (take i es) (x ∷ []) c.loop-key.invariant one)
