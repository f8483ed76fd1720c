use Rattle.std.proofs.Common.{Ok, refl}
use Rattle.page_journal.proofs.FileDiskLemmas.{grow_does}
use Rattle.page_journal.proofs.file_disk.FileDiskDisk.grow.Goals as goal

pub returns-clause-does : goal.returns-clause-does
returns-clause-does g c = grow_does _ c.args.n (Ok c.in_ok-cut_tail.field-0) c.lengthen.result c.args.self.now c.cut_tail.new.self c.lengthen.new.self refl c.in_ok-cut_tail.ensures.notes c.lengthen.ensures.notes c.lengthen.ensures.fault
