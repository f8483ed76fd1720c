use Rattle.std.proofs.Common.{rules, refl, arith}
use Rattle.rec_types.specs.Padded.{padded}
use Rattle.rec_types.proofs.record.RecordDefault.default.Goals as goal

-- nothing, padded with zeros
pub invariant_of-result : goal.invariant_of-result
unfolding padded
invariant_of-result c = record { most = omega arith; whole = refl; zeros = refl }

pub returns : goal.returns
returns c = search rules
