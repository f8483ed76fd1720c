use Rattle.std.proofs.Common.{arith}
use Rattle.std.proofs.lemmas.Grind.{elements}
use Rattle.page_store.proofs.mem_store.MemStoreStore.read.Goals as goal

pub returns-clause-page : goal.returns-clause-page
returns-clause-page c = grind (arith, elements)
