use Rattle.std.proofs.Common.{refl}
use Rattle.page_journal.specs.Fates.{noise}
use Rattle.page_journal.proofs.blank.noise_page.Goals as goal

pub returns : goal.returns
unfolding noise
returns c = refl
