use Rattle.std.proofs.Common.{refl}
use Rattle.page_store.proofs.FrontLemmas.{part_way, never_closed_first, never_marked_late}
use Rattle.page_store.proofs.laws.fronts_of_a_writing_back.Goals as goal

pub returns : goal.returns
returns c = record {
  fronts = part_way;
  example = refl;
  closed_first = never_closed_first;
  marked_late = never_marked_late;
}
