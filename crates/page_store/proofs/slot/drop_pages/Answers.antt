use Rattle.std.proofs.Common.{◌∙◌}
use Rattle.page_store.proofs.SlotLemmas.{not_at}
use Rattle.page_store.proofs.slot.drop_pages.Goals as goal

pub loop-n-preserved : goal.loop-n-preserved
loop-n-preserved c = λ q kept.
    c.drop_page.ensures q (not_at c.args.numbers.now c.loop-n.n-index q c.loop-n-test.true kept) ∙ c.loop-n.invariant q kept
