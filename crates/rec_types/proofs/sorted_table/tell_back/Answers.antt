use Rattle.std.proofs.Common.{ℕ, ◌≡◌, ◌-◌, ◌<◌, suc, [], ◌∷◌, ◌++◌, get_or, length, map, take, drop, reverse, ap, sym, subst, ◌∙◌, arith}
use Rattle.std.proofs.lemmas.Result.{err_from_is_err_and}
use Rattle.rec_types.specs.Sorted.{pair_at}
use Rattle.rec_types.proofs.SinkLemmas.{back_to, back_whole}
use Rattle.rec_types.proofs.sorted_table.tell_back.Goals as goal

pub returns-in_err-tell_at : goal.returns-in_err-tell_at
returns-in_err-tell_at g c =
    let p = err_from_is_err_and c.from_residual.result c.from_residual.ensures.1 in
    let es = c.args.records.now in
    let places = c.args.places.now in
    let k = c.loop-at.at - 1 in
    let at_is : c.loop-at.at ≡ suc k = omega (arith, c.loop-at-test.true) in
    let below : k < length places = omega (arith, c.loop-at-test.true, c.loop-at.invariant.within) in
    let front = reverse (map (pair_at es) (drop (suc k) places)) in
    let here = pair_at es (get_or places k 0) ∷ [] in
    let behind = reverse (map (pair_at es) (take k places)) in
    let so_far = subst (λ (n : ℕ). g.K.RecordSink.told c.args.sink.now c.args.out.now (reverse (map (pair_at es) (drop n places))) c.loop-at.sink c.loop-at.out) at_is c.loop-at.invariant.told in
    let stop = subst (λ fault. g.K.RecordSink.stops c.loop-at.sink c.loop-at.out here fault c.tell_at.new.sink c.tell_at.new.out) (sym p.2) c.in_err-tell_at.ensures in
    let until = g.met.K.RecordSink.stops_on c.args.sink.now c.loop-at.sink c.tell_at.new.sink c.args.out.now c.loop-at.out c.tell_at.new.out front here p.0 so_far stop in
    let all = g.met.K.RecordSink.stops_before c.args.sink.now c.tell_at.new.sink c.args.out.now c.tell_at.new.out (front ++ here) behind p.0 until in
    rw p.1 (subst (λ xs. g.K.RecordSink.stops c.args.sink.now c.args.out.now xs p.0 c.tell_at.new.sink c.tell_at.new.out) (ap (λ xs. xs ++ behind) (back_to es places k below) ∙ back_whole es places k) all)
