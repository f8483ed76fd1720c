use Rattle.page_journal.proofs.FileDiskLemmas.{not_steady}
use Rattle.page_journal.proofs.file_disk.FileDiskDisk.read.Goals as goal

pub returns-clause-page : goal.returns-clause-page
returns-clause-page g c = λ steady. not_steady steady
