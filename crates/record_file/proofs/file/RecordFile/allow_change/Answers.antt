use Rattle.std.proofs.Common.{ap, ◌∙◌}
use Rattle.record_file.specs.Refusals.{change_refusal, refusal_by}
use Rattle.record_file.proofs.RefusalLemmas.{change_refused_alike}
use Rattle.record_file.proofs.file.RecordFile.allow_change.Goals as goal

pub returns : goal.returns
returns g c =
    let l = c.self.inside in
    rw (← c.self.view_is)
    (ap (refusal_by change_refusal) c.allow_change.ensures ∙ change_refused_alike l.log (g.T.TableState.contents l.table) c.args.tx.0 c.args.key.now)
