use Rattle.page_journal.specs.declared.disk_call.DiskCall.TheVariants.{Remove}
use Rattle.page_journal.proofs.MemDiskLemmas.{mem_moment}
use Rattle.page_journal.proofs.mem_disk.MemDiskDisk.remove.Goals as goal

pub returns-clause-moment : goal.returns-clause-moment
returns-clause-moment c = mem_moment Remove c.note.result c.args.self.now c.note.new.self c.note.ensures.ok
