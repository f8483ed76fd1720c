use Rattle.std.proofs.Common.{rules}
use Rattle.rec_types.proofs.key.KeyHash.hash.Goals as goal

pub returns : goal.returns
returns g c = search rules
