use Rattle.std.proofs.Common.{ap, ◌∙◌, arith}
use Rattle.btree_delete.specs.Survey.{SeenSoFar, unreached}
use Rattle.btree_delete.proofs.SurveyLemmas.{unreached_set, not_reached}
use Rattle.btree_delete.proofs.opening.survey.Survey.reach.Goals as goal

pub returns-clause-fewer : goal.returns-clause-fewer
returns-clause-fewer c = λ _.
    unreached_set c.self.inside.reached.items c.args.n (not_reached c.self.inside.reached.items c.args.n c.index.result.now (omega (arith, c.if-at-len.false)) c.index.ensures c.if-index.false)
    ∙ ap (λ (s : SeenSoFar). unreached s.reached) c.self.view_is
