use Rattle.std.proofs.Common.{arith}
use Rattle.rec_types.proofs.ZeroLemmas.{padded_again}
use Rattle.rec_types.proofs.record.Record.in_field.Goals as goal

-- the field is the record padded
pub invariant_of-result : goal.invariant_of-result
invariant_of-result c = record {
  most = omega arith;
  whole = c.told-field;
  zeros = padded_again 100 c.args.len c.args.field.now c.told-field (omega arith) (c.is_zero_behind.ensures.0 c.if-not-is_zero_behind.false);
}
