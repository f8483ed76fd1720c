use Rattle.std.proofs.Common.{rules}
use Rattle.rec_types.proofs.record.RecordPartialEq.eq.Goals as goal

pub returns : goal.returns
returns c = search rules
