use Rattle.std.proofs.Common.{rules}
use Rattle.page_journal.proofs.MemDiskLemmas.{writes}
use Rattle.page_journal.proofs.mem_disk.MemDiskDisk.write.Goals as goal

pub returns-clause-does : goal.returns-clause-does
returns-clause-does c = (writes c.args.n c.args.from.now c.note.result c.args.self.now c.note.new.self c.note.ensures.ok c.note.ensures.err, search rules)
