use Rattle.std.proofs.Common.{rules}
use Rattle.command_text.proofs.reply.append_reply.Goals as goal

pub returns : goal.returns
returns c = search rules
