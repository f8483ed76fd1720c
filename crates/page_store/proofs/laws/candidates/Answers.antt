use Rattle.page_store.proofs.Candidates.{candidate_is_free, candidate_ascends, candidate_is_some, candidate_fits}
use Rattle.page_store.proofs.laws.candidates.Goals as goal

pub returns : goal.returns
returns c = record {
  unused = candidate_is_free;
  ascending = candidate_ascends;
  some = candidate_is_some;
  below = candidate_fits;
}
