use Rattle.std.proofs.Common.{refl}
use Rattle.recfile_c.proofs.TryExamples.{never_too_long, never_unmarked, never_kept_first, never_over_no_page}
use Rattle.recfile_c.proofs.laws.tried_closes_by_example.Goals as goal

pub returns : goal.returns
returns c = record {
  untried = refl;
  once = refl;
  too_long = never_too_long;
  unmarked = never_unmarked;
  kept_first = never_kept_first;
  other_pages = never_over_no_page;
}
