use Rattle.std.proofs.Common.{rules}
use Rattle.page_store.proofs.flaky_store.FlakyStore.new.Goals as goal

pub returns : goal.returns
returns g c = search rules
