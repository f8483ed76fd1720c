use Rattle.page_journal.proofs.FileDiskLemmas.{cut_does}
use Rattle.page_journal.proofs.file_disk.FileDiskDisk.cut.Goals as goal

pub returns-clause-does : goal.returns-clause-does
returns-clause-does g c = cut_does _ c.args.n c.shorten.result c.args.self.now c.shorten.new.self c.shorten.ensures.notes c.shorten.ensures.fault
