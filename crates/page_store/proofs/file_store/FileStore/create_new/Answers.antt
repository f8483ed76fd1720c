use Rattle.page_store.specs.FileValues.{gives_back}
use Rattle.page_store.proofs.RealFiles.{pages_in_file-are}
use Rattle.page_store.proofs.file_store.FileStore.create_new.Goals as goal

pub returns-clause-created : goal.returns-clause-created
returns-clause-created g c = λ i. record {
  pages = pages_in_file-are 0 i;
  tail = 0;
  steady = gives_back;
  reads = 0;
  shapes = 0;
  writes = 0;
  failures = 0;
}
