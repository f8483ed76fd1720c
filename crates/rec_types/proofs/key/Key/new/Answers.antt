use Rattle.std.proofs.Common.{arith}
use Rattle.std.proofs.lemmas.Bool.Decides.{nat_tests}
use Rattle.rec_types.proofs.Fields.{key_written}
use Rattle.rec_types.proofs.key.Key.new.Goals as goal

-- the bytes over sixteen zeros are the bytes padded
pub invariant_of-result : goal.invariant_of-result
invariant_of-result c = key_written c.args.bytes.now _ c.copy_from_slice.ensures.after (grind (arith, nat_tests)) (omega arith)
