use Rattle.std.proofs.Common.{rules}
use Rattle.page_store.proofs.mem_store.MemStoreStore.shape.Goals as goal

pub returns-clause-tail : goal.returns-clause-tail
returns-clause-tail c = search rules
