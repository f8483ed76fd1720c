use Rattle.page_store.proofs.SlotLemmas.{slots_dropped}
use Rattle.page_store.proofs.slot.drop_page.Goals as goal

pub returns : goal.returns
returns c = λ q other. slots_dropped c.args.changed.now.items c.args.n q other
