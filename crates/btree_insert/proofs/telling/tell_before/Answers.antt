use Rattle.std.proofs.Common.{◌≡◌, ℕ, ◌-◌, ◌<◌, suc, length, get_or, [], ◌∷◌, ◌++◌, take, reverse, sym, ap, subst, ◌∙◌, arith}
use Rattle.std.proofs.lemmas.Result.{err_from_is_err_and}
use Rattle.btree_node.specs.Lists.{Element}
use Rattle.btree_node.proofs.SpeltPageLemmas.{count_spelt}
use Rattle.btree_insert.proofs.TellingLemmas.{nobody, told_more, stopped_there, back_is}
use Rattle.btree_insert.proofs.telling.tell_before.Goals as goal

pub loop-at-preserved : goal.loop-at-preserved
loop-at-preserved g c = record {
  within = omega (arith, c.loop-at.invariant.within, c.loop-at-test.true);
  told = λ m can is.
      let els = m.elements.items in
      let size = count_spelt c.args.order c.args.page.now m c.requires.0 can is in
      let at = c.loop-at.at - 1 in
      let low : at < length els = omega (arith, size, c.loop-at.invariant.within, c.loop-at-test.true) in
      let so_far = c.loop-at.invariant.told m can is in
      let x : Element = (c.key_in-key.result, c.bytes.result.now) in
      let same : x ≡ get_or els at nobody = λ i. (c.key_in-key.ensures m nobody can is i, (c.bytes.ensures.value ∙ c.record_in.ensures m nobody can is) i) in
      let on = g.met.K.RecordSink.told_on c.args.sink.now c.loop-at.sink c.take.new.self c.args.out.now c.loop-at.out c.take.new.out so_far.0 (x ∷ []) so_far.2 c.in_ok-take.ensures in
      told_more (λ xs. g.K.RecordSink.told c.args.sink.now c.args.out.now xs c.take.new.self c.take.new.out) _ so_far.0 (reverse (take c.loop-at.at els)) x (get_or els at nobody) (reverse (take at els)) so_far.1 (let one : c.loop-at.at ≡ suc at = omega (arith, c.loop-at-test.true) in ap (λ (n : ℕ). reverse (take n els)) one ∙ back_is els at low) same on;
}

pub returns-in_err-take : goal.returns-in_err-take
returns-in_err-take g c = λ m can is.
    let p = err_from_is_err_and c.from_residual.result c.from_residual.ensures.1 in
    let els = m.elements.items in
    let size = count_spelt c.args.order c.args.page.now m c.requires.0 can is in
    let at = c.loop-at.at - 1 in
    let low : at < length els = omega (arith, size, c.loop-at.invariant.within, c.loop-at-test.true) in
    let so_far = c.loop-at.invariant.told m can is in
    let x : Element = (c.key_in-key.result, c.bytes.result.now) in
    let same : x ≡ get_or els at nobody = λ i. (c.key_in-key.ensures m nobody can is i, (c.bytes.ensures.value ∙ c.record_in.ensures m nobody can is) i) in
    let stop = subst (λ fault. g.K.RecordSink.stops c.loop-at.sink c.loop-at.out (x ∷ []) fault c.take.new.self c.take.new.out) (sym p.2) c.in_err-take.ensures in
    let until = g.met.K.RecordSink.stops_on c.args.sink.now c.loop-at.sink c.take.new.self c.args.out.now c.loop-at.out c.take.new.out so_far.0 (x ∷ []) p.0 so_far.2 stop in
    let all = g.met.K.RecordSink.stops_before c.args.sink.now c.take.new.self c.args.out.now c.take.new.out (so_far.0 ++ x ∷ []) (reverse (take at els)) p.0 until in
    rw p.1 (stopped_there (λ xs. g.K.RecordSink.stops c.args.sink.now c.args.out.now xs p.0 c.take.new.self c.take.new.out) _ so_far.0 (reverse (take c.loop-at.at els)) x (get_or els at nobody) (reverse (take at els)) so_far.1 (let one : c.loop-at.at ≡ suc at = omega (arith, c.loop-at-test.true) in ap (λ (n : ℕ). reverse (take n els)) one ∙ back_is els at low) same all)
