use Rattle.std.proofs.Common.{rules}
use Rattle.page_journal.specs.declared.disk_call.DiskCall.TheVariants.{Sync}
use Rattle.page_journal.proofs.CallDiskLemmas.{call_moment}
use Rattle.page_journal.proofs.call_disk.CallDiskDisk.sync.Goals as goal

pub returns : goal.returns
returns c = (search rules, search rules, search rules, call_moment c.note.result c.args.self.now c.note.new.self Sync c.note.ensures.ok)
