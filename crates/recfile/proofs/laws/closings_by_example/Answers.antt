use Rattle.recfile.proofs.KeptOnceLemmas.{kept_with_others, kept_unsynced, kept_with_side, left_third, left_foreign, closed_unwritten}
use Rattle.recfile.proofs.laws.closings_by_example.Goals as goal

pub returns : goal.returns
returns c = record {
  others = kept_with_others;
  unsynced = kept_unsynced;
  side_file = kept_with_side;
  third_file = left_third;
  foreign = left_foreign;
  unwritten = closed_unwritten;
}
