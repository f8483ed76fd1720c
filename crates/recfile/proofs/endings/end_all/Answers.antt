use Rattle.std.proofs.Common.{◌≡◌, ℕ, ◌+◌, Some, None, refl, subst, ◌∙◌, arith}
use Rattle.std.proofs.lemmas.Result.{err_from_is_err_and}
use Rattle.rec_types.specs.History.{replay}
use Rattle.record_file.specs.Abstract.{open_of}
use Rattle.record_file.specs.Runs.{seen}
use Rattle.recfile.specs.Ending.{EndsBelow, stop_of}
use Rattle.recfile.proofs.AskingLemmas.{asks_nothing, asks_on}
use Rattle.recfile.proofs.EndingLemmas.{below_first, below_next, count_next, few_next, all_ended, replay_without}
use Rattle.recfile.proofs.OneEndingLemmas.{stops_ending}
use Rattle.recfile.proofs.endings.end_all.Goals as goal

pub loop-number-init : goal.loop-number-init
loop-number-init g c = record {
  ended = below_first c.args.file.now.file c.begun-number-end.ensures.kept.opens;
  asks = asks_nothing (seen g.T.TableState c.args.file.now);
  count = omega arith;
  few = omega arith;
  origin = refl;
}

pub returns-in_err-end_one-clause-stopped : goal.returns-in_err-end_one-clause-stopped
returns-in_err-end_one-clause-stopped g c =
    let p = err_from_is_err_and c.from_residual.result c.from_residual.ensures.1 in
    rw (p.1, p.2) (stops_ending c.args.file.now.file c.loop-number.file.file c.end_one.new.file.file (c.loop-number.number + 1) c.in_err-end_one.field-0.0 c.loop-number.invariant.ended c.in_err-end_one.ensures.stopped c.in_err-end_one.ensures.number)

pub returns-in_err-end_one-clause-asks : goal.returns-in_err-end_one-clause-asks
returns-in_err-end_one-clause-asks g c =
    let p = err_from_is_err_and c.from_residual.result c.from_residual.ensures.1 in
    rw (p.1, p.2) (asks_on (seen g.T.TableState c.args.file.now) (seen g.T.TableState c.loop-number.file) (seen g.T.TableState c.end_one.new.file) (Some (stop_of c.in_err-end_one.field-0.0)) c.loop-number.invariant.asks c.in_err-end_one.ensures.asks)

pub loop-number-preserved : goal.loop-number-preserved
loop-number-preserved g c =
    let known = c.loop-number.invariant in
    record {
      ended = below_next c.args.file.now.file c.loop-number.file.file c.end_one.new.file.file (c.loop-number.number + 1) c.in_ok-end_one.field-0 known.ended c.in_ok-end_one.ensures.ended;
      asks = asks_on (seen g.T.TableState c.args.file.now) (seen g.T.TableState c.loop-number.file) (seen g.T.TableState c.end_one.new.file) None known.asks c.in_ok-end_one.ensures.asks;
      count = count_next c.loop-number.file.file c.end_one.new.file.file (c.loop-number.number + 1) c.loop-number.ended c.one_if.result _ c.in_ok-end_one.field-0 known.count c.in_ok-end_one.ensures.ended c.one_if.ensures;
      few = few_next c.loop-number.number c.loop-number.ended c.one_if.result c.in_ok-end_one.field-0 known.few c.one_if.ensures;
      origin = c.end_one.ensures.origin ∙ known.origin;
    }

pub returns-clause-ended : goal.returns-clause-ended
returns-clause-ended g c =
    let all : c.loop-number.number ≡ c.args.file.now.file.begun = omega (arith, c.loop-number-test.false, c.loop-number.auto.number-end, c.begun-number-end.ensures.made.happens.answer.1) in
    all_ended c.args.file.now.file c.loop-number.file.file c.loop-number.ended c.begun-number-end.ensures.kept.opens (subst (λ (k : ℕ). EndsBelow c.args.file.now.file (k + 1) c.loop-number.file.file) all c.loop-number.invariant.ended) c.loop-number.invariant.count

pub returns-clause-records : goal.returns-clause-records
returns-clause-records g c = λ sound.
    let known = c.loop-number.invariant in
    let all = returns-clause-ended g c in
    c.begun-begun.ensures.kept.replayed (known.asks.sound ∙ sound)
    ∙ (λ i. replay (known.asks.opening sound i) (all.history i))
    ∙ replay_without c.args.file.now.file.opening (open_of c.args.file.now.file) c.args.file.now.file.history
