use Rattle.std.proofs.Common.{rules}
use Rattle.command_text.proofs.list.KeyList.into_vec.Goals as goal

pub returns : goal.returns
returns c = search rules
