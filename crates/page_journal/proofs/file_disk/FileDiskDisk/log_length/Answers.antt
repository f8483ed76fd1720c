use Rattle.page_journal.proofs.FileDiskLemmas.{not_steady}
use Rattle.page_journal.proofs.file_disk.FileDiskDisk.log_length.Goals as goal

pub returns-clause-long : goal.returns-clause-long
returns-clause-long g c = λ steady. not_steady steady
