use Rattle.page_journal.proofs.ExampleLemmas.{one_lost, one_torn, names_synced, never_durable, never_other}
use Rattle.page_journal.proofs.laws.writes_by_example.Goals as goal

pub returns : goal.returns
returns c = record {
  lost = one_lost;
  torn = one_torn;
  other_sync = names_synced;
  synced = λ c left. left.2.1;
  not_durable = never_durable;
  other_page = never_other;
}
