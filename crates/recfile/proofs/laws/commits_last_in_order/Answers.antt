use Rattle.recfile.proofs.DurableLemmas.{earlier_lost, one_more, some_first}
use Rattle.recfile.proofs.laws.commits_last_in_order.Goals as goal

pub returns : goal.returns
returns c = record {
  some = some_first;
  earlier_lost = earlier_lost;
  one_more = one_more;
}
