use Rattle.std.proofs.Common.{◌∙◌}
use Rattle.page_journal.specs.SideBytes.{header_width}
use Rattle.page_journal.proofs.SideReadingLemmas.{entry_next}
use Rattle.page_journal.proofs.side_reading.entries_said.Goals as goal

pub loop-i-preserved : goal.loop-i-preserved
loop-i-preserved c =
    c.in_ok-push.ensures.items
    ∙ entry_next (header_width c.args.rest) c.loop-i.i c.entry_start-at.result c.number_said-n.result c.args.bytes.now c.page_said-page.result c.loop-i.pages.items c.loop-i.invariant c.entry_start-at.ensures c.number_said-n.ensures c.page_said-page.ensures
