use Rattle.std.proofs.Common.{sym, ◌∙◌, arith}
use Rattle.std.proofs.lemmas.Bool.Decides.{nat_tests}
use Rattle.command_text.proofs.WordLemmas.{word_some, word_none}
use Rattle.command_text.proofs.word.next_word.Goals as goal

pub returns-in-Some : goal.returns-in-Some
returns-in-Some c = sym c.skip_spaces-text.ensures.words ∙ word_some c.skip_spaces-text.result.now c.in-Some.at c.skip_spaces-text.ensures.first (sym c.in-Some.ensures)

pub returns-in-None : goal.returns-in-None
returns-in-None c = sym c.skip_spaces-text.ensures.words ∙ word_none c.skip_spaces-text.result.now (grind (arith, nat_tests)) (sym c.in-None.ensures)
