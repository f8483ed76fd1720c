use Rattle.std.proofs.Common.{rules}
use Rattle.page_store.proofs.flaky_store.FlakyStoreStore.set_pages.Goals as goal

pub returns-clause-pages : goal.returns-clause-pages
returns-clause-pages g c = search rules

pub returns-clause-old_pages : goal.returns-clause-old_pages
returns-clause-old_pages g c = search rules

pub returns-clause-changes : goal.returns-clause-changes
returns-clause-changes g c = search rules

pub returns-then-write_fails_now-clause-passes : goal.returns-then-write_fails_now-clause-passes
returns-then-write_fails_now-clause-passes g c = record {
  fails = search rules;
  passes = search rules;
  reads_below = search rules;
  shapes_below = search rules;
  writes_below = search rules;
  rest = search rules;
}

pub returns-clause-passes : goal.returns-clause-passes
returns-clause-passes g c = record {
  fails = search rules;
  passes = search rules;
  reads_below = search rules;
  shapes_below = search rules;
  writes_below = search rules;
  rest = search rules;
}
