use Rattle.std.proofs.Common.{rules}
use Rattle.file_session.proofs.limits.greatest_limits.Goals as goal

pub returns : goal.returns
returns c = search rules
