use Rattle.std.proofs.Common.{refl}
use Rattle.page_store.specs.Blank.{blank}
use Rattle.page_journal.proofs.blank.blank_page.Goals as goal

pub returns : goal.returns
unfolding blank
returns c = refl
