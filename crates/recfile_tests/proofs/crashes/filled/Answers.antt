use Rattle.std.proofs.Common.{refl}
use Rattle.recfile_tests.specs.TwoPages.{filled_page}
use Rattle.recfile_tests.proofs.crashes.filled.Goals as goal

pub returns : goal.returns
unfolding filled_page
returns c = refl
