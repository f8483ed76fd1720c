use Rattle.page_journal.proofs.LogExampleLemmas.{made_there, never_early, lost_one, synced_there}
use Rattle.page_journal.proofs.laws.logs_by_example.Goals as goal

pub returns : goal.returns
returns c = record { made = made_there; named_early = never_early; lost = lost_one; synced = synced_there }
