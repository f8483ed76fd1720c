use Rattle.std.proofs.Common.{arith}
use Rattle.recfile_tests.proofs.OnePage.{can_nothing}
use Rattle.recfile_tests.proofs.stores.stage_nothing.Goals as goal

pub staged-requires : goal.staged-requires
staged-requires g c = can_nothing _ _ _ (omega arith) c.new.ensures.items c.new-2.ensures.items
