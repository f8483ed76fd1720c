use Rattle.std.proofs.Common.{rules}
use Rattle.page_store.proofs.mem_store.MemStoreStore.sync.Goals as goal

pub returns-clause-same_tail : goal.returns-clause-same_tail
returns-clause-same_tail c = search rules
