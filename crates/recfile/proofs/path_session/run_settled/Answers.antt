use Rattle.std.proofs.Common.{◌≡◌, Bool, List, ℕ, Option, Some, None, IfSome, sym, ap, subst}
use Rattle.recfile.specs.FilesAt.{SessionOf}
use Rattle.file_session.specs.declared.file_fault.FileFault.{FileFault}
use Rattle.recfile.proofs.path_session.run_settled.Goals as goal

-- where the file isn't opened, nothing is read and nothing written
unread : {X Y Z : Type 0} (unopened : Option FileFault) (remaining : X → Option (List ℕ)) (contents : Y → Option (List ℕ)) (reader left : X) (out held : Y) (before after : Z) (status : ℕ) (unclosed : Option FileFault)
    → IfSome unopened (λ _. (status ≡ 1) × (unclosed ≡ None) × (left ≡ reader) × (held ≡ out) × (after ≡ before))
    → IfSome unopened (λ _. (status ≡ 1) × (unclosed ≡ None) × (remaining left ≡ remaining reader) × (contents held ≡ contents out) × (after ≡ before))
unread None remaining contents reader left out held before after status unclosed none = none
unread (Some fault) remaining contents reader left out held before after status unclosed some = (some.0, some.1, ap remaining some.2, ap contents some.3, some.4)

pub returns-then-durable : goal.returns-then-durable
returns-then-durable g c =
    let end = c.run_flushing.result in
    subst (λ (b : Bool). SessionOf b g.D.DiskState c.args.manner c.args.limits (g.R.CountedRead.left c.args.reader.now) (g.R.CountedRead.left c.run_flushing.new.reader) (g.W.CountedWrite.held c.args.out.now) (g.W.CountedWrite.held c.run_flushing.new.out) c.args.calls.now c.run_flushing.new.calls c.args.disk end.unopened end.unclosed end.disk end.status) (sym c.if-durable.true) c.run_flushing.ensures

pub returns-else-durable : goal.returns-else-durable
returns-else-durable g c =
    let end = c.run_kept.result in
    subst (λ (b : Bool). SessionOf b g.D.DiskState c.args.manner c.args.limits (g.R.CountedRead.left c.args.reader.now) (g.R.CountedRead.left c.run_kept.new.reader) (g.W.CountedWrite.held c.args.out.now) (g.W.CountedWrite.held c.run_kept.new.out) c.args.calls.now c.run_kept.new.calls c.args.disk end.unopened end.unclosed end.disk end.status) (sym c.if-durable.false) (record {
      unread = unread end.unopened g.R.CountedRead.left g.W.CountedWrite.held c.args.reader.now c.run_kept.new.reader c.args.out.now c.run_kept.new.out c.args.calls.now c.run_kept.new.calls end.status end.unclosed c.run_kept.ensures.unread;
      ran = c.run_kept.ensures.ran;
      device = c.run_kept.ensures.device;
      own = c.run_kept.ensures.own;
      closed = c.run_kept.ensures.closed;
      first = c.run_kept.ensures.first;
      untouched = c.run_kept.ensures.untouched;
      stopped = c.run_kept.ensures.stopped;
      session = c.run_kept.ensures.session;
    })
