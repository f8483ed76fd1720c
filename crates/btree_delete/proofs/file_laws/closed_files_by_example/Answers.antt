use Rattle.btree_delete.proofs.FileExampleLemmas.{three_closed, old_pages_open, new_pages_open, unclean_open, underfull_open, tail_open}
use Rattle.btree_delete.proofs.file_laws.closed_files_by_example.Goals as goal

pub returns-clause-closed : goal.returns-clause-closed
returns-clause-closed c = three_closed

pub returns-clause-old_pages : goal.returns-clause-old_pages
returns-clause-old_pages c = old_pages_open

pub returns-clause-new_pages : goal.returns-clause-new_pages
returns-clause-new_pages c = new_pages_open

pub returns-clause-unclean : goal.returns-clause-unclean
returns-clause-unclean c = unclean_open

pub returns-clause-underfull : goal.returns-clause-underfull
returns-clause-underfull c = underfull_open

pub returns-clause-tail : goal.returns-clause-tail
returns-clause-tail c = tail_open
