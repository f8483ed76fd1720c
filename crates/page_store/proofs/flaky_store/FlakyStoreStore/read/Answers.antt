use Rattle.std.proofs.Common.{rules}
use Rattle.page_store.proofs.flaky_store.FlakyStoreStore.read.Goals as goal

pub returns-clause-leaves : goal.returns-clause-leaves
returns-clause-leaves g c = search rules

pub returns-clause-passes : goal.returns-clause-passes
returns-clause-passes g c = search rules

pub returns-clause-reads_below : goal.returns-clause-reads_below
returns-clause-reads_below g c = search rules
