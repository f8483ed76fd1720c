use Rattle.std.proofs.Common.{◌∙◌}
use Rattle.std.specs.Ordering.{nat_cmp, ordering_then}
use Rattle.std.specs.Cmp.Lexicographic.{slice_cmp}
use Rattle.rec_types.proofs.NumberOrder.{keys_in_numbers}
use Rattle.rec_types.proofs.key.KeyOrd.cmp.Goals as goal

-- the order of the numbers, and then of the lengths, is that of the bytes
pub returns : goal.returns
returns c =
    c.then.ensures
    ∙ (λ i. ordering_then (c.cmp.ensures i) (c.cmp-2.ensures i))
    ∙ (λ i. ordering_then (nat_cmp (c.number_of.ensures.value i) (c.number_of-2.ensures.value i)) (nat_cmp c.self.inside.len c.other.inside.len))
    ∙ keys_in_numbers c.self.inside c.other.inside c.self.invariant c.other.invariant c.number_of.ensures.bytes c.number_of-2.ensures.bytes
    ∙ (λ i. slice_cmp nat_cmp (c.self.view_is i) (c.other.view_is i))
