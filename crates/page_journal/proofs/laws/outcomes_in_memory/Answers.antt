use Rattle.page_journal.proofs.FateLemmas.{seen_left, left_earlier}
use Rattle.page_journal.proofs.laws.outcomes_in_memory.Goals as goal

pub returns : goal.returns
returns c = record { seen = seen_left; earlier = left_earlier }
