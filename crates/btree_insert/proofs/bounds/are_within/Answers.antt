use Rattle.std.proofs.Common.{refl}
use Rattle.btree_insert.proofs.BoundLemmas.{both_within}
use Rattle.btree_insert.proofs.bounds.are_within.Goals as goal

pub returns-then-is_over : goal.returns-then-is_over
returns-then-is_over c =
    both_within c.args.bounds.now c.args.elements.now c.index-elements-0.result c.index-elements-elements.result c.is_under.result c.requires.some c.requires.ascends
    c.index-elements-0.is c.index-elements-elements.is (c.if-is_over.ensures.0 refl) c.is_under.ensures
