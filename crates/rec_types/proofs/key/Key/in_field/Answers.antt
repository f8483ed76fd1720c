use Rattle.std.proofs.Common.{arith}
use Rattle.std.proofs.lemmas.Bool.Decides.{nat_tests}
use Rattle.rec_types.proofs.ZeroLemmas.{padded_again}
use Rattle.rec_types.proofs.key.Key.in_field.Goals as goal

-- the field is the key padded
pub invariant_of-result : goal.invariant_of-result
invariant_of-result c = record {
  some = grind (arith, nat_tests);
  most = omega arith;
  whole = c.told-field;
  zeros = padded_again 16 c.args.len c.args.field.now c.told-field (omega arith) (c.is_zero_from.ensures.0 c.if-not-is_zero_from.false);
}
