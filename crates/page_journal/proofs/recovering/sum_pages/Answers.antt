use Rattle.std.proofs.Common.{◌∙◌, ap, sym, refl, slice_get, arith}
use Rattle.page_journal.specs.Files.{Files}
use Rattle.page_journal.proofs.MomentLemmas.{stays_itself, stays_then}
use Rattle.page_journal.proofs.BelongLemmas.{sums_none, sums_more}
use Rattle.page_journal.proofs.recovering.sum_pages.Goals as goal

pub loop-n-init : goal.loop-n-init
loop-n-init g c = record {
  stays = stays_itself g.D.DiskState c.args.disk.now;
  failures = refl;
  above = omega arith;
  sum = λ st. sums_none (g.D.DiskState.seen c.args.disk.now).main.pages c.args.from c.args.sum;
}

pub loop-n-preserved : goal.loop-n-preserved
loop-n-preserved g c =
    let d = g.D.DiskState in
    let old = c.args.disk.now in
    record {
      stays = stays_then d (g.met.D.Disk.counts_now) old c.loop-n.disk c.read.new.self c.loop-n.invariant.stays c.read.ensures.does.0;
      failures = c.in_ok-read.ensures.does.1.failures ∙ c.loop-n.invariant.failures;
      above = omega (arith, c.loop-n.invariant.above);
      sum = λ st.
          let there = ap (λ (f : Files). slice_get f.main.pages c.loop-n.n) (sym c.loop-n.invariant.stays.seen) ∙ c.in_ok-read.ensures.page (c.loop-n.invariant.stays.steady ∙ st) in
          λ out none is. c.sum_on-sum.ensures ∙ sums_more (d.seen old).main.pages c.args.from c.loop-n.n c.args.sum c.loop-n.sum c.read.new.to (c.loop-n.invariant.sum st) c.loop-n.invariant.above there out none is;
    }
