use Rattle.std.proofs.Common.{rules}
use Rattle.command_text.proofs.word.one_word.Goals as goal

pub returns-in-None : goal.returns-in-None
returns-in-None c = search rules
