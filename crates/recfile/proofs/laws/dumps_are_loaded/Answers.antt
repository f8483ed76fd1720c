use Rattle.recfile.proofs.DumpRunLemmas.{dump_loaded}
use Rattle.recfile.proofs.laws.dumps_are_loaded.Goals as goal

pub returns : goal.returns
returns c = dump_loaded
