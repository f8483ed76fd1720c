use Rattle.page_journal.proofs.ExampleLemmas.{named_old, sealed_old, never_named_early, never_written_early, never_removed_early}
use Rattle.page_journal.proofs.laws.naming_by_example.Goals as goal

pub returns : goal.returns
returns c = record {
  named = named_old;
  sealed = sealed_old;
  named_early = never_named_early;
  written_early = never_written_early;
  removed_early = never_removed_early;
}
