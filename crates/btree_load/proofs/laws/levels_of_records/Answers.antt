use Rattle.btree_load.proofs.ShapeLemmas.{one_way}
use Rattle.btree_load.proofs.laws.levels_of_records.Goals as goal

pub returns-clause-one_way : goal.returns-clause-one_way
returns-clause-one_way c = λ k count levels others are are2. one_way k count levels others are are2
