use Rattle.recfile_c.proofs.HandleLemmas.{lent_of, handed_on}
use Rattle.recfile_c.proofs.looks.recfile_count.Goals as goal

pub returns : goal.returns
returns c =
    rw (lent_of _ c.take.ensures.value c.in-Some.is c.deref_mut.ensures.value)
    (rw c.give.ensures (rw (handed_on c.count-status.result c.count-status.type_inv) c.count-status.ensures))
