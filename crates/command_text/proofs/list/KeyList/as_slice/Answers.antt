use Rattle.std.proofs.Common.{rules}
use Rattle.command_text.proofs.list.KeyList.as_slice.Goals as goal

pub returns : goal.returns
returns c = search rules
