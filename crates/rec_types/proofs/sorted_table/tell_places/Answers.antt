use Rattle.std.proofs.Common.{◌+◌, ◌<◌, [], ◌∷◌, ◌++◌, get_or, length, map, take, drop, sym, subst, arith}
use Rattle.std.proofs.lemmas.Result.{err_from_is_err_and}
use Rattle.rec_types.specs.Sorted.{pair_at}
use Rattle.rec_types.proofs.SinkLemmas.{pairs_behind}
use Rattle.rec_types.proofs.sorted_table.tell_places.Goals as goal

pub returns-in_err-tell_at : goal.returns-in_err-tell_at
returns-in_err-tell_at g c =
    let p = err_from_is_err_and c.from_residual.result c.from_residual.ensures.1 in
    let es = c.args.records.now in
    let k = c.loop-place.place-index in
    let below : k < length c.args.places.now = omega arith in
    let front = map (pair_at es) (take k c.args.places.now) in
    let here = pair_at es (get_or c.args.places.now k 0) ∷ [] in
    let behind = map (pair_at es) (drop (k + 1) c.args.places.now) in
    let stop = subst (λ fault. g.K.RecordSink.stops c.loop-place.sink c.loop-place.out here fault c.tell_at.new.sink c.tell_at.new.out) (sym p.2) c.in_err-tell_at.ensures in
    let until = g.met.K.RecordSink.stops_on c.args.sink.now c.loop-place.sink c.tell_at.new.sink c.args.out.now c.loop-place.out c.tell_at.new.out front here p.0 c.loop-place.invariant stop in
    let all = g.met.K.RecordSink.stops_before c.args.sink.now c.tell_at.new.sink c.args.out.now c.tell_at.new.out (front ++ here) behind p.0 until in
    rw p.1 (subst (λ xs. g.K.RecordSink.stops c.args.sink.now c.args.out.now xs p.0 c.tell_at.new.sink c.tell_at.new.out) (pairs_behind es c.args.places.now k below) all)
