use Rattle.std.proofs.Common.{rules}
use Rattle.page_journal.specs.declared.disk_call.DiskCall.TheVariants.{SyncNames}
use Rattle.page_journal.proofs.MemDiskLemmas.{mem_moment}
use Rattle.page_journal.proofs.mem_disk.MemDiskDisk.sync_names.Goals as goal

pub returns : goal.returns
returns c = (search rules, search rules, search rules, mem_moment SyncNames c.note.result c.args.self.now c.note.new.self c.note.ensures.ok)
