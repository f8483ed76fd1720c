use Rattle.page_store.proofs.TryExamples.{never_unmarked, tried_never_marked_late, tried_never_closed_first, never_twice}
use Rattle.page_store.proofs.laws.tries_by_example.Goals as goal

pub returns : goal.returns
returns c = record {
  unmarked = never_unmarked;
  marked_late = tried_never_marked_late;
  closed_first = tried_never_closed_first;
  twice = never_twice;
}
