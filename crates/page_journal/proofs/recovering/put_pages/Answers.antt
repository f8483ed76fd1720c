use Rattle.std.proofs.Common.{◌≡◌, ◌+◌, ◌∙◌, ap, sym, subst, refl, rules, arith, length, Some, OnOk, slice_get}
use Rattle.std.proofs.lemmas.List.{take_all}
use Rattle.std.proofs.lemmas.Result.{err_from_is_err_and}
use Rattle.page_journal.specs.Files.{Files, put_back}
use Rattle.page_journal.specs.Steps.{kept_at}
use Rattle.page_journal.proofs.RunLemmas.{holds_begin, holds_then}
use Rattle.page_journal.proofs.PuttingLemmas.{Puts, puts_read, puts_change, puts_skip, may_of, long_torn, tail_torn}
use Rattle.page_journal.specs.Crash.{LeavesLogs}
use Rattle.page_journal.proofs.LogLemmas.{logs_begin, logs_stays, logs_write}
use Rattle.page_journal.proofs.recovering.put_pages.Goals as goal
use Rattle.page_journal.proofs.recovering.put_pages.Goals.{then-n-long+in_ok-overwrite, else-n-long}

pub loop-i-init : goal.loop-i-init
loop-i-init g c = record {
  long = c.requires.long;
  steady = refl;
  began = refl;
  logs = logs_begin g.D.DiskState c.args.disk.now (g.met.D.Disk.only_now c.args.disk.now);
  tail = refl;
  failures = refl;
  put = λ st kept base long count sealed. record {
    holds = holds_begin g.D.DiskState kept base c.args.disk.now (g.met.D.Disk.only_now c.args.disk.now) sealed;
    put = refl;
  };
}

pub returns-in_err-n-clause-put : goal.returns-in_err-n-clause-put
returns-in_err-n-clause-put g c = λ st kept base long count sealed.
    let p = puts_read g.D.DiskState kept base c.loop-i.i c.args.disk.now c.loop-i.disk c.kept.new.self (c.loop-i.invariant.put st kept base long count sealed) c.kept.ensures.does.0 in
    record { sealed = p.holds.sealed; time = p.holds.time; put = search rules }

pub returns-in_err-overwrite-clause-put : goal.returns-in_err-overwrite-clause-put
returns-in_err-overwrite-clause-put g c = λ st kept base long count sealed.
    let d = g.D.DiskState in
    let mid = c.loop-i.invariant.put st kept base long count sealed in
    let p = puts_read d kept base c.loop-i.i c.args.disk.now c.loop-i.disk c.kept.new.self mid c.kept.ensures.does.0 in
    let may = may_of kept (d.seen c.loop-i.disk).side c.loop-i.i (c.in_ok-n.n, c.kept.new.to) mid.holds.sealed.side (c.in_ok-n.ensures.page (c.loop-i.invariant.steady ∙ st)) in
    let now = c.overwrite.ensures.sealed kept base p.holds.sealed may in
    let holds = holds_then d kept base c.args.disk.now c.kept.new.self c.overwrite.new.disk p.holds now.0 now.1 in
    let failed = err_from_is_err_and c.from_residual-in_err-overwrite.result c.from_residual-in_err-overwrite.ensures.1 in
    record { sealed = holds.sealed; time = holds.time; put = subst (λ r. OnOk r ((d.seen c.overwrite.new.disk).main.pages ≡ put_back kept.pages (d.seen c.args.disk.now).main.pages)) (sym failed.1) tt }

pub loop-i-preserved : goal.loop-i-preserved
loop-i-preserved g c =
    let d = g.D.DiskState in
    let old = c.args.disk.now in
    let same = ap (λ (f : Files). length f.main.pages) c.kept.ensures.does.0.seen in
    let same_tail = ap (λ (f : Files). f.main.tail) c.kept.ensures.does.0.seen in
    record {
      long = elim c.if-n-long.branch [
        | then-n-long+in_ok-overwrite w ↦ c.loop-i.invariant.long ∙ sym same ∙ sym (long_torn c.in_ok-n.n _ _ w.overwrite.ensures.does.0.seen) ∙ sym (ap (λ e. length (d.seen e).main.pages) w.disk-is)
        | else-n-long w ↦ c.loop-i.invariant.long ∙ sym same ∙ sym (ap (λ e. length (d.seen e).main.pages) w.disk-is)
      ];
      steady = elim c.if-n-long.branch [
        | then-n-long+in_ok-overwrite w ↦ ap (λ e. d.steady e) w.disk-is ∙ w.overwrite.ensures.does.0.steady ∙ c.kept.ensures.does.0.steady ∙ c.loop-i.invariant.steady
        | else-n-long w ↦ ap (λ e. d.steady e) w.disk-is ∙ c.kept.ensures.does.0.steady ∙ c.loop-i.invariant.steady
      ];
      began = elim c.if-n-long.branch [
        | then-n-long+in_ok-overwrite w ↦ ap (λ e. d.began e) w.disk-is ∙ w.overwrite.ensures.does.0.began ∙ c.kept.ensures.does.0.began ∙ c.loop-i.invariant.began
        | else-n-long w ↦ ap (λ e. d.began e) w.disk-is ∙ c.kept.ensures.does.0.began ∙ c.loop-i.invariant.began
      ];
      logs = elim c.if-n-long.branch [
        | then-n-long+in_ok-overwrite w ↦ subst (λ e. LeavesLogs d old e) (sym w.disk-is) (logs_write d c.in_ok-n.n old c.kept.new.self w.overwrite.new.disk (logs_stays d old c.loop-i.disk c.kept.new.self c.loop-i.invariant.logs c.kept.ensures.does.0) w.overwrite.ensures.does.0)
        | else-n-long w ↦ subst (λ e. LeavesLogs d old e) (sym w.disk-is) (logs_stays d old c.loop-i.disk c.kept.new.self c.loop-i.invariant.logs c.kept.ensures.does.0)
      ];
      tail = elim c.if-n-long.branch [
        | then-n-long+in_ok-overwrite w ↦ ap (λ e. (d.seen e).main.tail) w.disk-is ∙ tail_torn c.in_ok-n.n _ _ w.overwrite.ensures.does.0.seen ∙ same_tail ∙ c.loop-i.invariant.tail
        | else-n-long w ↦ ap (λ e. (d.seen e).main.tail) w.disk-is ∙ same_tail ∙ c.loop-i.invariant.tail
      ];
      failures = elim c.if-n-long.branch [
        | then-n-long+in_ok-overwrite w ↦ ap (λ e. d.failures e) w.disk-is ∙ w.in_ok-overwrite.ensures.does.1.failures ∙ c.in_ok-n.ensures.does.1.failures ∙ c.loop-i.invariant.failures
        | else-n-long w ↦ ap (λ e. d.failures e) w.disk-is ∙ c.in_ok-n.ensures.does.1.failures ∙ c.loop-i.invariant.failures
      ];
      put = λ st kept base long count sealed.
          let mid = c.loop-i.invariant.put st kept base long count sealed in
          let p = puts_read d kept base c.loop-i.i old c.loop-i.disk c.kept.new.self mid c.kept.ensures.does.0 in
          let found = c.in_ok-n.ensures.page (c.loop-i.invariant.steady ∙ st) in
          let there : slice_get kept.pages c.loop-i.i ≡ Some (c.in_ok-n.n, c.kept.new.to) = ap (λ s. kept_at s c.loop-i.i) (sym mid.holds.sealed.side) ∙ found in
          let may = may_of kept (d.seen c.loop-i.disk).side c.loop-i.i (c.in_ok-n.n, c.kept.new.to) mid.holds.sealed.side found in
          elim c.if-n-long.branch [
            | then-n-long+in_ok-overwrite w ↦ subst (λ e. Puts d kept base (c.loop-i.i + 1) old e) (sym w.disk-is) (puts_change d kept base c.loop-i.i c.in_ok-n.n c.kept.new.to old c.kept.new.self w.overwrite.new.disk p (w.overwrite.ensures.sealed kept base p.holds.sealed may) (w.in_ok-overwrite.ensures.page (c.kept.ensures.does.0.steady ∙ c.loop-i.invariant.steady ∙ st)) there)
            | else-n-long w ↦ subst (λ e. Puts d kept base (c.loop-i.i + 1) old e) (sym w.disk-is) (puts_skip d kept base c.loop-i.i c.in_ok-n.n c.kept.new.to old c.kept.new.self p (omega (arith, w.if-n-long.false, c.loop-i.invariant.long, same)) there)
          ];
    }

pub returns-clause-put : goal.returns-clause-put
returns-clause-put g c = λ st kept base long count sealed.
    let p = c.loop-i.invariant.put st kept base long count sealed in
    record {
      sealed = p.holds.sealed;
      time = p.holds.time;
      put = p.put ∙ ap (λ ps. put_back ps (g.D.DiskState.seen c.args.disk.now).main.pages) (take_all c.loop-i.i kept.pages (omega (arith, count, c.loop-i-test.false)));
    }

pub returns-in_err-n-clause-logs : goal.returns-in_err-n-clause-logs
returns-in_err-n-clause-logs g c = logs_stays g.D.DiskState c.args.disk.now c.loop-i.disk c.kept.new.self c.loop-i.invariant.logs c.kept.ensures.does.0

pub returns-in_err-overwrite-clause-logs : goal.returns-in_err-overwrite-clause-logs
returns-in_err-overwrite-clause-logs g c =
    let d = g.D.DiskState in
    let old = c.args.disk.now in
    logs_write d c.in_ok-n.n old c.kept.new.self c.overwrite.new.disk (logs_stays d old c.loop-i.disk c.kept.new.self c.loop-i.invariant.logs c.kept.ensures.does.0) c.overwrite.ensures.does.0
