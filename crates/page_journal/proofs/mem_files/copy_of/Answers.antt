use Rattle.std.specs.List.{each_same}
use Rattle.page_journal.proofs.mem_files.copy_of.Goals as goal

pub returns : goal.returns
returns c = c.in_ok-to_vec.ensures.items_if_clones_equal (λ x y h i. (h.0 i, each_same x.1 y.1 h.1.whole i))
