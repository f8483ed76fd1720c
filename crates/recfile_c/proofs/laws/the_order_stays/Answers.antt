use Rattle.recfile_c.proofs.TryLemmas.{opened_order, made_order}
use Rattle.recfile_c.proofs.laws.the_order_stays.Goals as goal

pub returns : goal.returns
returns c = record { opened = opened_order; made = made_order }
