use Rattle.std.proofs.Common.{◌+◌, ◌∙◌, ap, sym, subst, refl, arith, slice_get, length}
use Rattle.page_journal.specs.Files.{PageFile, Files}
use Rattle.page_journal.proofs.RunLemmas.{quiet_begin}
use Rattle.page_journal.proofs.PuttingLemmas.{Gathers, gathers_begin, gathers_read, gathers_skip, gathers_keep}
use Rattle.page_journal.proofs.BelongLemmas.{ascend_raise}
use Rattle.page_journal.specs.Crash.{LeavesLogs}
use Rattle.page_journal.proofs.LogLemmas.{logs_begin, logs_stays, logs_fresh}
use Rattle.page_journal.proofs.sealing.gather.Goals as goal
use Rattle.page_journal.proofs.sealing.gather.Goals.{then-marks-n+in_ok-read+in_ok-keep, else-marks-n}

pub loop-n-init : goal.loop-n-init
loop-n-init g c =
    let d = g.D.DiskState in
    let old = c.args.disk.now in
    record {
      steady = refl;
      began = refl;
      logs = logs_begin d old (g.met.D.Disk.only_now old);
      same = refl;
      failures = refl;
      inside = omega arith;
      had = λ st. gathers_begin d (d.seen old).main c.args.marks.now (c.requires.fresh st).0 old (quiet_begin d (d.seen old).main old (g.met.D.Disk.only_now old) (c.requires.settled st)) (c.requires.fresh st).1 c.requires.long;
    }

pub loop-n-preserved : goal.loop-n-preserved
loop-n-preserved g c =
    let d = g.D.DiskState in
    let main = (d.seen c.args.disk.now).main in
    let old = c.args.disk.now in
    let marks = c.args.marks.now in
    let i = c.loop-n.n in
    record {
      steady = elim c.if-marks-n.branch [
        | then-marks-n+in_ok-read+in_ok-keep w ↦ ap (λ e. d.steady e) w.disk-is ∙ w.keep.ensures.does.0.steady ∙ w.read.ensures.does.0.steady ∙ c.loop-n.invariant.steady
        | else-marks-n w ↦ ap (λ e. d.steady e) w.disk-is ∙ c.loop-n.invariant.steady
      ];
      began = elim c.if-marks-n.branch [
        | then-marks-n+in_ok-read+in_ok-keep w ↦ ap (λ e. d.began e) w.disk-is ∙ w.keep.ensures.does.0.began ∙ w.read.ensures.does.0.began ∙ c.loop-n.invariant.began
        | else-marks-n w ↦ ap (λ e. d.began e) w.disk-is ∙ c.loop-n.invariant.began
      ];
      logs = elim c.if-marks-n.branch [
        | then-marks-n+in_ok-read+in_ok-keep w ↦ subst (λ e. LeavesLogs d old e) (sym w.disk-is) (logs_fresh d old w.read.new.self w.keep.new.self (logs_stays d old c.loop-n.disk w.read.new.self c.loop-n.invariant.logs w.read.ensures.does.0) w.keep.ensures.does.0)
        | else-marks-n w ↦ subst (λ e. LeavesLogs d old e) (sym w.disk-is) c.loop-n.invariant.logs
      ];
      same = elim c.if-marks-n.branch [
        | then-marks-n+in_ok-read+in_ok-keep w ↦ ap (λ e. (d.seen e).main) w.disk-is ∙ w.keep.ensures.does.0.seen.main ∙ ap (λ (f : Files). f.main) w.read.ensures.does.0.seen ∙ c.loop-n.invariant.same
        | else-marks-n w ↦ ap (λ e. (d.seen e).main) w.disk-is ∙ c.loop-n.invariant.same
      ];
      failures = elim c.if-marks-n.branch [
        | then-marks-n+in_ok-read+in_ok-keep w ↦ ap (λ e. d.failures e) w.disk-is ∙ w.in_ok-keep.ensures.does.1.failures ∙ w.in_ok-read.ensures.does.1.failures ∙ c.loop-n.invariant.failures
        | else-marks-n w ↦ ap (λ e. d.failures e) w.disk-is ∙ c.loop-n.invariant.failures
      ];
      inside = omega (arith, c.loop-n-test.true);
      had = λ st.
          let mid = c.loop-n.invariant.had st in
          let still = c.loop-n.invariant.steady ∙ st in
          elim c.if-marks-n.branch [
            | then-marks-n+in_ok-read+in_ok-keep w ↦ subst (λ e. Gathers d main marks (i + 1) old e) (sym w.disk-is) (gathers_keep d main marks i w.read.new.to old w.read.new.self w.keep.new.self (gathers_read d main marks i old c.loop-n.disk w.read.new.self mid w.read.ensures.does.0) w.if-marks-n.true w.keep.ensures.does.0 (ap (λ (m : PageFile). slice_get m.pages i) (sym c.loop-n.invariant.same) ∙ w.in_ok-read.ensures.page still) w.in_ok-keep.ensures.fresh)
            | else-marks-n w ↦ subst (λ e. Gathers d main marks (i + 1) old e) (sym w.disk-is) (gathers_skip d main marks i old c.loop-n.disk mid w.if-marks-n.false)
          ];
    }

pub returns-clause-kept : goal.returns-clause-kept
returns-clause-kept g c = λ st.
    let had = c.loop-n.invariant.had st in
    let marks = c.args.marks.now in (
      had.kept,
      λ n inside. had.below n (omega (arith, inside, c.loop-n-test.false)),
      ascend_raise 0 c.loop-n.n (length marks) (g.D.DiskState.seen c.loop-n.disk).fresh.pages had.up c.loop-n.invariant.inside,
      had.rest,
    )

pub returns-in_err-read-clause-logs : goal.returns-in_err-read-clause-logs
returns-in_err-read-clause-logs g c = logs_stays g.D.DiskState c.args.disk.now c.loop-n.disk c.read.new.self c.loop-n.invariant.logs c.read.ensures.does.0

pub returns-in_err-keep-clause-logs : goal.returns-in_err-keep-clause-logs
returns-in_err-keep-clause-logs g c =
    let d = g.D.DiskState in
    let old = c.args.disk.now in
    logs_fresh d old c.read.new.self c.keep.new.self (logs_stays d old c.loop-n.disk c.read.new.self c.loop-n.invariant.logs c.read.ensures.does.0) c.keep.ensures.does.0
