use Rattle.std.specs.List.{each_same}
use Rattle.page_journal.proofs.mem_files.copy_of_pages.Goals as goal

pub returns : goal.returns
returns c = c.in_ok-to_vec.ensures.items_if_clones_equal (λ x y h. each_same x y h.whole)
