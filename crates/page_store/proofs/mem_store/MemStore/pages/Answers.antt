use Rattle.std.proofs.Common.{rules}
use Rattle.page_store.proofs.mem_store.MemStore.pages.Goals as goal

pub returns : goal.returns
returns c = search rules
