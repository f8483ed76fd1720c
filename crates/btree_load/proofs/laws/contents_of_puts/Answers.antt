use Rattle.btree_load.proofs.ShapeLemmas.{contents_put}
use Rattle.btree_load.proofs.laws.contents_of_puts.Goals as goal

pub returns : goal.returns
returns c = λ es up. contents_put es up
