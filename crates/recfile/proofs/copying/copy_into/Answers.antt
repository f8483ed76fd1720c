use Rattle.recfile.proofs.CopiedLemmas.{whys_none}
use Rattle.recfile.proofs.copying.copy_into.Goals as goal

pub returns-clause-fault : goal.returns-clause-fault
returns-clause-fault g c limit can =
    whys_none (g.P.Pages.StoreState.pages c.args.source.now) (g.P.Pages.StoreState.tail c.args.source.now) limit can c.copy_pages-copied.result c.settle_copy.result c.copy_pages-copied.ensures.fault c.settle_copy.ensures.fault
