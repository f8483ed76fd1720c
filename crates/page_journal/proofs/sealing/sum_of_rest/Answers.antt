use Rattle.std.proofs.Common.{◌∙◌, ap, sym, subst, refl, slice_get}
use Rattle.page_journal.specs.Files.{Files}
use Rattle.page_journal.specs.Steps.{Stays}
use Rattle.page_journal.proofs.MomentLemmas.{stays_itself, stays_then}
use Rattle.page_journal.proofs.BelongLemmas.{rest_in, rest_out}
use Rattle.page_journal.proofs.sealing.sum_of_rest.Goals as goal
use Rattle.page_journal.proofs.sealing.sum_of_rest.Goals.{then-not-marks-n+in_ok-read, else-not-marks-n}

pub loop-n-init : goal.loop-n-init
loop-n-init g c = record {
  stays = stays_itself g.D.DiskState c.args.disk.now;
  failures = refl;
  sum = λ st. refl;
}

pub loop-n-preserved : goal.loop-n-preserved
loop-n-preserved g c =
    let d = g.D.DiskState in
    let old = c.args.disk.now in
    let marks = c.args.marks.now in
    let pages = (d.seen old).main.pages in
    let n = c.loop-n.n in
    record {
      stays = elim c.if-not-marks-n.branch [
        | then-not-marks-n+in_ok-read w ↦ subst (λ e. Stays d old e) (sym w.disk-is) (stays_then d (g.met.D.Disk.counts_now) old c.loop-n.disk w.read.new.self c.loop-n.invariant.stays w.read.ensures.does.0)
        | else-not-marks-n w ↦ subst (λ e. Stays d old e) (sym w.disk-is) c.loop-n.invariant.stays
      ];
      failures = elim c.if-not-marks-n.branch [
        | then-not-marks-n+in_ok-read w ↦ ap (λ e. d.failures e) w.disk-is ∙ w.in_ok-read.ensures.does.1.failures ∙ c.loop-n.invariant.failures
        | else-not-marks-n w ↦ ap (λ e. d.failures e) w.disk-is ∙ c.loop-n.invariant.failures
      ];
      sum = λ st. elim c.if-not-marks-n.branch [
        | then-not-marks-n+in_ok-read w ↦ w.sum-is ∙ w.sum_on-sum.ensures ∙ rest_in marks pages n c.loop-n.sum w.read.new.to (c.loop-n.invariant.sum st) w.if-not-marks-n.true (ap (λ (f : Files). slice_get f.main.pages n) (sym c.loop-n.invariant.stays.seen) ∙ w.in_ok-read.ensures.page (c.loop-n.invariant.stays.steady ∙ st))
        | else-not-marks-n w ↦ w.sum-is ∙ rest_out marks pages n c.loop-n.sum (c.loop-n.invariant.sum st) w.if-not-marks-n.false
      ];
    }
