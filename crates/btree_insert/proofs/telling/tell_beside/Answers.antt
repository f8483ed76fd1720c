use Rattle.std.proofs.Common.{rules, ◌-◌, T, List, [], ◌++◌, Ok, refl, sym, ap, subst, ◌∙◌, arith}
use Rattle.std.proofs.lemmas.Result.{err_from_is_err_and}
use Rattle.std.specs.Cmp.Lexicographic.{slice_cmp}
use Rattle.std.specs.Ordering.{nat_cmp}
use Rattle.std.specs.FinMap.{is_sorted, entries_sorted}
use Rattle.page_store.specs.PageMap.{at}
use Rattle.page_store.specs.PagesView.{PagesView}
use Rattle.btree_node.specs.Lists.{Element, Ascends}
use Rattle.rec_types.specs.Ordered.{is_left, in_turn}
use Rattle.rec_types.specs.declared.gap.Gap.{Gap}
use Rattle.btree_insert.specs.Contents.{contents_of}
use Rattle.btree_insert.specs.Nearest.{TakesTo, TakesFirst}
use Rattle.btree_insert.specs.PageTrees.{Holds}
use Rattle.btree_insert.proofs.ContentsLemmas.{entries-contents_of}
use Rattle.btree_insert.proofs.TellingLemmas.{ToldUpto, upto_more, few_in_turn, reads_more}
use Rattle.btree_insert.proofs.telling.tell_beside.Goals as goal

-- ascending elements are sorted
sorted : (es : List Element) → Ascends es → T (is_sorted (slice_cmp nat_cmp) es)
sorted es up = subst (λ (xs : List Element). T (is_sorted (slice_cmp nat_cmp) xs)) (entries-contents_of es up) (entries_sorted (contents_of es))

pub loop-left-init : goal.loop-left-init
loop-left-init g c = record {
  within = omega arith;
  told = λ steady es us holds. (
    ([], refl, g.met.K.RecordSink.told_none c.args.sink.now c.args.out.now),
    omega (arith, few_in_turn c.args.side (is_left c.args.from.now) es, holds.count),
  );
  some = ([], g.met.K.RecordSink.told_none c.args.sink.now c.args.out.now);
  reading = search rules;
}

pub loop-left-preserved : goal.loop-left-preserved
loop-left-preserved g c =
    let unchanged = c.loop-left.invariant.reading.unchanged in
    let told = λ (xs : List Element). g.K.RecordSink.told c.args.sink.now c.args.out.now xs c.loop-left.sink c.loop-left.out in
    let here = λ (xs : List Element). g.K.RecordSink.told c.loop-left.sink c.loop-left.out xs c.tell_leaf.new.sink c.tell_leaf.new.out in
    let next = λ (xs : List Element). g.K.RecordSink.told c.args.sink.now c.args.out.now xs c.tell_leaf.new.sink c.tell_leaf.new.out in
    let stops = λ (xs : List Element) (fault : g.row.K-Fault.Denot). g.K.RecordSink.stops c.loop-left.sink c.loop-left.out xs fault c.tell_leaf.new.sink c.tell_leaf.new.out in
    let on = λ (xs ys : List Element). g.met.K.RecordSink.told_on c.args.sink.now c.loop-left.sink c.tell_leaf.new.sink c.args.out.now c.loop-left.out c.tell_leaf.new.out xs ys in
    record {
      within = omega (arith, c.loop-left.invariant.within);
      told = λ steady es us holds.
          let holds2 = subst (λ (v : PagesView). Holds (at v.pages) c.args.tree.now es us) (sym unchanged) holds in
          let first = c.in_ok-last.ensures.told (ap (λ (v : PagesView). v.steady) unchanged ∙ steady) es us holds2 in
          subst (λ (x : Gap). ToldUpto next c.args.side c.args.from.now x es (c.loop-left.left - 1)) (sym c.past-gap.ensures)
          (upto_more told here next stops on c.args.side c.args.from.now c.loop-left.gap c.in-Ok-Some.last es c.loop-left.left (sorted es holds.ascends) (c.loop-left.invariant.told steady es us holds)
          (subst (TakesFirst here stops (in_turn c.args.side (is_left c.loop-left.gap) es [])) (c.in-Ok-Some.is ∙ ap Ok c.in-Ok-Some.field-0-is) first));
      some =
          let before = c.loop-left.invariant.some in
          let one = subst (λ r. (es : List Element) × TakesTo here stops es r) (c.in-Ok-Some.is ∙ ap Ok c.in-Ok-Some.field-0-is) c.in_ok-last.ensures.some in
          (before.0 ++ one.0, on before.0 one.0 before.1 one.1.0);
      reading =
          let old = c.loop-left.invariant.reading in
          let now = c.tell_leaf.ensures.reading.0 in
          let more = reads_more c.args.tree.now.height c.args.tree.now.count c.loop-left.left (omega (arith, c.loop-left-test.true)) c.loop-left.invariant.within in
          search (rules, more);
    }

pub returns-in-Ok-None-clause-some : goal.returns-in-Ok-None-clause-some
returns-in-Ok-None-clause-some g c =
    let here = λ (xs : List Element). g.K.RecordSink.told c.loop-left.sink c.loop-left.out xs c.tell_leaf.new.sink c.tell_leaf.new.out in
    let stops = λ (xs : List Element) (fault : g.row.K-Fault.Denot). g.K.RecordSink.stops c.loop-left.sink c.loop-left.out xs fault c.tell_leaf.new.sink c.tell_leaf.new.out in
    let before = c.loop-left.invariant.some in
    let one = subst (λ r. (es : List Element) × TakesTo here stops es r) (c.in-Ok-None.is ∙ ap Ok c.in-Ok-None.field-0-is) c.in_ok-last.ensures.some in
    (before.0 ++ one.0, g.met.K.RecordSink.told_on c.args.sink.now c.loop-left.sink c.tell_leaf.new.sink c.args.out.now c.loop-left.out c.tell_leaf.new.out before.0 one.0 before.1 one.1.0)

pub returns-in-Err-clause-some : goal.returns-in-Err-clause-some
returns-in-Err-clause-some g c =
    let here = λ (xs : List Element). g.K.RecordSink.told c.loop-left.sink c.loop-left.out xs c.tell_leaf.new.sink c.tell_leaf.new.out in
    let stops = λ (xs : List Element) (fault : g.row.K-Fault.Denot). g.K.RecordSink.stops c.loop-left.sink c.loop-left.out xs fault c.tell_leaf.new.sink c.tell_leaf.new.out in
    let before = c.loop-left.invariant.some in
    let one = subst (λ r. (es : List Element) × TakesTo here stops es r) c.in-Err.is c.in_ok-last.ensures.some in
    (before.0 ++ one.0, g.met.K.RecordSink.stops_on c.args.sink.now c.loop-left.sink c.tell_leaf.new.sink c.args.out.now c.loop-left.out c.tell_leaf.new.out before.0 one.0 c.in-Err.fault before.1 one.1)

pub returns-in_err-last-clause-some : goal.returns-in_err-last-clause-some
returns-in_err-last-clause-some g c =
    let p = err_from_is_err_and c.from_residual.result c.from_residual.ensures.1 in
    let before = c.loop-left.invariant.some in
    (before.0 ++ [], rw p.1 (g.met.K.RecordSink.told_on c.args.sink.now c.loop-left.sink c.tell_leaf.new.sink c.args.out.now c.loop-left.out c.tell_leaf.new.out before.0 [] before.1 c.in_err-last.ensures.some))
