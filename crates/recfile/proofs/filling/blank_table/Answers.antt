use Rattle.std.proofs.Common.{length, ap, subst, ◌∙◌, arith}
use Rattle.recfile.specs.Filling.{IsBlankFile}
use Rattle.recfile.proofs.FillingLemmas.{opened_blank}
use Rattle.recfile.proofs.filling.blank_table.Goals as goal

pub returns-in-Ok-clause-blank : goal.returns-in-Ok-clause-blank
returns-in-Ok-clause-blank g c = λ steady.
    let stays = c.shape.ensures.leaves.stays in
    let store = c.shape.new.self in
    let main = (g.D.DiskState.seen store.disk).main in
    subst (IsBlankFile c.in-Ok.table.tree.order) (λ i. record { pages = stays.pages i; tail = stays.tail i })
    (opened_blank main.pages main.tail c.args.limits.records store.reads c.in-Ok.table.pages c.in-Ok.table.tree (omega (arith, ap length stays.pages, c.in-Ok-eq1.ensures.pages)) (c.in-Ok.ensures.found (stays.steady ∙ steady)))
