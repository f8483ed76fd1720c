use Rattle.page_journal.proofs.FileDiskLemmas.{not_steady}
use Rattle.page_journal.proofs.file_disk.FileDiskDisk.read_log.Goals as goal

pub returns-clause-bytes : goal.returns-clause-bytes
returns-clause-bytes g c = λ steady. not_steady steady
