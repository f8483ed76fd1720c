use Rattle.std.proofs.Common.{rules}
use Rattle.page_store.proofs.file_store.FileStoreStore.sync.Goals as goal

pub returns-clause-same_tail : goal.returns-clause-same_tail
returns-clause-same_tail g c = search rules
