use Rattle.std.proofs.Common.{arith}
use Rattle.rec_types.proofs.Fields.{record_written}
use Rattle.rec_types.proofs.record.Record.new.Goals as goal

-- the bytes over the zeros are the bytes padded
pub invariant_of-result : goal.invariant_of-result
invariant_of-result c = record_written c.args.bytes.now _ c.copy_from_slice.ensures.after (omega arith)
