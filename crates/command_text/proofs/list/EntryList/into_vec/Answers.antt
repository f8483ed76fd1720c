use Rattle.std.proofs.Common.{rules}
use Rattle.command_text.proofs.list.EntryList.into_vec.Goals as goal

pub returns : goal.returns
returns c = search rules
