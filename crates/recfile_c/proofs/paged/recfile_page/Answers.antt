use Rattle.std.proofs.Common.{rules}
use Rattle.recfile_c.proofs.paged.recfile_page.Goals as goal

pub returns : goal.returns
returns c = search rules
