use Rattle.page_journal.proofs.CarryingLemmas.{steps_restored, front_done}
use Rattle.page_journal.proofs.ExampleLemmas.{steps_kept, steps_not_kept, steps_not_restored}
use Rattle.page_journal.proofs.laws.steps_put_back.Goals as goal

pub returns : goal.returns
returns c = record {
  each = steps_restored;
  front = front_done;
  example = steps_kept;
  not_kept = steps_not_kept;
  not_restored = steps_not_restored;
}
