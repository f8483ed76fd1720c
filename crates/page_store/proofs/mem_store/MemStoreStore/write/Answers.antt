use Rattle.std.proofs.Common.{rules}
use Rattle.page_store.proofs.mem_store.MemStoreStore.write.Goals as goal

pub returns-clause-page : goal.returns-clause-page
returns-clause-page c = search rules

pub returns-clause-other_pages : goal.returns-clause-other_pages
returns-clause-other_pages c = search rules
