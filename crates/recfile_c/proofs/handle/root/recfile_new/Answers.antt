use Rattle.std.proofs.Common.{rules}
use Rattle.recfile_c.proofs.handle.root.recfile_new.Goals as goal

pub returns-in-Err : goal.returns-in-Err
returns-in-Err c = search rules
