use Rattle.std.proofs.Common.{rules}
use Rattle.page_journal.proofs.CallDiskLemmas.{call_cuts}
use Rattle.page_journal.proofs.call_disk.CallDiskDisk.cut.Goals as goal

pub returns-clause-does : goal.returns-clause-does
returns-clause-does c = (call_cuts c.note.result c.args.self.now c.note.new.self c.args.n c.note.ensures.ok c.note.ensures.err, search rules)
