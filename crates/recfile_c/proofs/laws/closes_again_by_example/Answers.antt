use Rattle.recfile_c.proofs.TryExamples.{once_again, never_fewer, never_too_long_again, never_unmarked_again, never_kept_first_again, never_over_no_page_again}
use Rattle.recfile_c.proofs.laws.closes_again_by_example.Goals as goal

pub returns : goal.returns
returns c = record {
  once = once_again;
  fewer = never_fewer;
  too_long = never_too_long_again;
  unmarked = never_unmarked_again;
  kept_first = never_kept_first_again;
  other_pages = never_over_no_page_again;
}
