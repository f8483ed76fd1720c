use Rattle.std.proofs.Common.{rules}
use Rattle.page_store.proofs.flaky_store.FlakyStoreStore.shape.Goals as goal

pub returns-clause-tail : goal.returns-clause-tail
returns-clause-tail g c = search rules
