use Rattle.page_journal.proofs.FileDiskLemmas.{not_steady}
use Rattle.page_journal.proofs.file_disk.FileDiskDisk.side.Goals as goal

pub returns-clause-shape : goal.returns-clause-shape
returns-clause-shape g c = λ steady. not_steady steady
