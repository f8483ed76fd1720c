use Rattle.page_journal.proofs.CallDiskLemmas.{front_left}
use Rattle.page_journal.proofs.laws.fronts_of_calls.Goals as goal

pub returns : goal.returns
returns c = front_left
