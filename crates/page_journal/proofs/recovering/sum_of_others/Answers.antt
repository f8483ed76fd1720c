use Rattle.std.proofs.Common.{inl, inr, ⊎_elim, ◌∙◌, sym, subst, refl, arith}
use Rattle.page_journal.specs.Files.{Files}
use Rattle.page_journal.specs.Sums.{SumsOn}
use Rattle.page_journal.proofs.MomentLemmas.{stays_itself, stays_then}
use Rattle.page_journal.proofs.BelongLemmas.{passed_none, passed_one, passed_over, passed_all, of_shape, found_at}
use Rattle.page_journal.proofs.recovering.sum_of_others.Goals as goal

pub loop-i-init : goal.loop-i-init
loop-i-init g c = record {
  stays = stays_itself g.D.DiskState c.args.disk.now;
  failures = refl;
  below = omega arith;
  passed = λ st kept side shape. passed_none kept (g.D.DiskState.seen c.args.disk.now).main.pages _ refl;
}

pub loop-i-preserved : goal.loop-i-preserved
loop-i-preserved g c =
    let d = g.D.DiskState in
    let old = c.args.disk.now in
    let i = c.loop-i.invariant in
    let counts = g.met.D.Disk.counts_now in
    record {
      stays = stays_then d counts old c.kept.new.self c.sum_pages.new.disk (stays_then d counts old c.loop-i.disk c.kept.new.self i.stays c.kept.ensures.does.0) c.sum_pages.ensures.stays;
      failures = c.in_ok-sum.ensures.fault.failures ∙ c.in_ok-n.ensures.does.1.failures ∙ i.failures;
      below = omega (arith, c.if-n-side.false);
      passed = λ st kept side shape.
          let before = stays_then d counts old c.loop-i.disk c.kept.new.self i.stays c.kept.ensures.does.0 in
          let there = found_at d kept old c.loop-i.disk c.loop-i.i (c.in_ok-n.n, c.kept.new.to) side i.stays.seen (c.in_ok-n.ensures.page (i.stays.steady ∙ st)) in
          let on = subst (λ (f : Files). SumsOn f.main.pages c.loop-i.next c.in_ok-n.n c.loop-i.sum c.in_ok-sum.sum) before.seen (c.in_ok-sum.ensures.sum (before.steady ∙ st)) in
          passed_one kept (d.seen old).main.pages c.loop-i.i c.loop-i.next c.in_ok-n.n c.loop-i.sum c.in_ok-sum.sum c.kept.new.to (i.passed st kept side shape) (omega (arith, c.if-n-next.false)) there on;
    }

pub returns-then-n-next-clause-sum : goal.returns-then-n-next-clause-sum
returns-then-n-next-clause-sum g c = λ st kept side shape.
    let d = g.D.DiskState in
    let old = c.args.disk.now in
    let i = c.loop-i.invariant in
    let parts = of_shape kept c.args.side (d.seen old).main.pages shape in
    let there = found_at d kept old c.loop-i.disk c.loop-i.i (c.in_ok-n.n, c.kept.new.to) side i.stays.seen (c.in_ok-n.ensures.page (i.stays.steady ∙ st)) in
    passed_over kept (d.seen old).main.pages c.loop-i.i c.loop-i.next c.in_ok-n.n c.loop-i.sum c.kept.new.to (i.passed st kept side shape) there
    (⊎_elim (λ early. inl early) (λ late. inr (omega (arith, late.1, parts.0))) c.then-n-next.either)

pub returns-clause-sum : goal.returns-clause-sum
returns-clause-sum g c = λ st kept side shape.
    let d = g.D.DiskState in
    let old = c.args.disk.now in
    let i = c.loop-i.invariant in
    let parts = of_shape kept c.args.side (d.seen old).main.pages shape in
    let on = subst (λ (f : Files). SumsOn f.main.pages c.loop-i.next c.args.side.long c.loop-i.sum c.in_ok-sum-2.sum) i.stays.seen (c.in_ok-sum-2.ensures.sum (i.stays.steady ∙ st)) in
    passed_all kept (d.seen old).main.pages c.loop-i.i c.loop-i.next c.loop-i.sum c.in_ok-sum-2.sum (i.passed st kept side shape) (omega (arith, parts.1, c.loop-i-test.false)) (omega (arith, i.below, parts.0)) (subst (λ m. SumsOn (d.seen old).main.pages c.loop-i.next m c.loop-i.sum c.in_ok-sum-2.sum) (sym parts.0) on)
