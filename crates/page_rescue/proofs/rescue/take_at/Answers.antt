use Rattle.std.proofs.Common.{sym, ◌∙◌}
use Rattle.page_rescue.proofs.RescueLemmas.{same_page}
use Rattle.page_rescue.proofs.rescue.take_at.Goals as goal

pub returns-in_ok-take_page-in-Ok-clause-has : goal.returns-in_ok-take_page-in-Ok-clause-has
returns-in_ok-take_page-in-Ok-clause-has g c steady was_read page is = same_page c.take_page.new.table.contents c.read.new.to page (sym (c.in-Ok.ensures.page steady) ∙ is) c.in_ok-take_page-in-Ok.ensures.has
