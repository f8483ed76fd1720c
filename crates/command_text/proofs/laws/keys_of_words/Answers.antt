use Rattle.command_text.proofs.EscapeLaws.{key_of_word}
use Rattle.command_text.proofs.laws.keys_of_words.Goals as goal

pub returns : goal.returns
returns c = key_of_word
