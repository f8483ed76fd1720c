use Rattle.std.proofs.Common.{refl, arith}
use Rattle.rec_types.specs.Padded.{padded}
use Rattle.rec_types.proofs.key.KeyDefault.default.Goals as goal

-- one zero, padded with zeros
pub invariant_of-result : goal.invariant_of-result
unfolding padded
invariant_of-result c = record { some = omega arith; most = omega arith; whole = refl; zeros = refl }
