use Rattle.std.proofs.Common.{rules}
use Rattle.rec_types.proofs.key.Key.bytes.Goals as goal

pub returns-clause-value : goal.returns-clause-value
returns-clause-value c = search rules
