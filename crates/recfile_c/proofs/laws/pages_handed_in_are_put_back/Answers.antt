use Rattle.std.proofs.Common.{List, ℕ, subst}
use Rattle.page_journal.specs.Carrying.{LeavesOf}
use Rattle.page_journal.proofs.CarryingLemmas.{steps_restored}
use Rattle.recfile_c.proofs.TryLemmas.{handed_in}
use Rattle.recfile_c.proofs.laws.pages_handed_in_are_put_back.Goals as goal

pub returns : goal.returns
returns c = λ pages limits made now last n j opens same tried settles kept left gathered all leaves.
    steps_restored kept pages left j.steps gathered all (subst (λ (old : List (List ℕ)). LeavesOf j.steps old left) (handed_in pages limits made now last n j opens same tried settles).0 leaves)
