use Rattle.std.proofs.Common.{rules}
use Rattle.page_store.proofs.flaky_store.FlakyStoreStore.sync.Goals as goal

pub returns-then-write_fails_now-clause-passes : goal.returns-then-write_fails_now-clause-passes
returns-then-write_fails_now-clause-passes g c = record {
  fails = search rules;
  passes = search rules;
  reads_below = search rules;
  shapes_below = search rules;
  writes_below = search rules;
  rest = search rules;
}

pub returns-clause-passes : goal.returns-clause-passes
returns-clause-passes g c = record {
  fails = search rules;
  passes = search rules;
  reads_below = search rules;
  shapes_below = search rules;
  writes_below = search rules;
  rest = search rules;
}
