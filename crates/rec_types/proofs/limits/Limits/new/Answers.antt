use Rattle.std.proofs.Common.{rules}
use Rattle.rec_types.proofs.limits.Limits.new.Goals as goal

pub returns-then-records-lt1 : goal.returns-then-records-lt1
returns-then-records-lt1 c = search rules
