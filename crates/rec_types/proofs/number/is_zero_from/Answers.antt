use Rattle.std.proofs.Common.{arith}
use Rattle.rec_types.proofs.ZeroLemmas.{zero_from_test}
use Rattle.rec_types.proofs.number.is_zero_from.Goals as goal

pub returns : goal.returns
returns c = zero_from_test c.args.len c.read_u128.result c.args.bytes.now c.read_u128.ensures c.fits-bytes c.told-bytes (omega arith)
