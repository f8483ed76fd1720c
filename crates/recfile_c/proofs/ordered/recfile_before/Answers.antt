use Rattle.recfile_c.proofs.HandleLemmas.{lent_of}
use Rattle.recfile_c.proofs.ordered.recfile_before.Goals as goal

pub returns-clause-step : goal.returns-clause-step
returns-clause-step c =
    rw (lent_of _ c.take.ensures.value c.in-Some.is c.deref_mut.ensures.value)
    (rw c.give.ensures c.beside.ensures)
