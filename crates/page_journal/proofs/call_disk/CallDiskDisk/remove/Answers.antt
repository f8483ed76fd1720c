use Rattle.page_journal.specs.declared.disk_call.DiskCall.TheVariants.{Remove}
use Rattle.page_journal.proofs.CallDiskLemmas.{call_moment}
use Rattle.page_journal.proofs.call_disk.CallDiskDisk.remove.Goals as goal

pub returns-clause-moment : goal.returns-clause-moment
returns-clause-moment c = call_moment c.note.result c.args.self.now c.note.new.self Remove c.note.ensures.ok
