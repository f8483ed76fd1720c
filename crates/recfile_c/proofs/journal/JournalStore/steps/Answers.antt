use Rattle.std.proofs.Common.{rules}
use Rattle.recfile_c.proofs.journal.JournalStore.steps.Goals as goal

pub returns : goal.returns
returns c = search rules
