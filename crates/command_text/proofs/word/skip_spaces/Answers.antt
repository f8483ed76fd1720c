use Rattle.std.proofs.Common.{◌≡◌, ℕ, ◌-◌, length, take, drop, sym, subst}
use Rattle.command_text.specs.Grammar.{words_of}
use Rattle.command_text.specs.Words.{StartsWord}
use Rattle.command_text.proofs.WordLemmas.{skipped}
use Rattle.command_text.proofs.word.skip_spaces.Goals as goal

pub returns-clause-words : goal.returns-clause-words
returns-clause-words c =
    let text = c.args.text.now in
    subst (λ (i : ℕ). words_of (take (length text - i) (drop i text)) ≡ words_of text) (sym c.unwrap_or.ensures) (skipped text c.first_byte.result (sym c.first_byte.ensures)).0

pub returns-clause-first : goal.returns-clause-first
returns-clause-first c =
    let text = c.args.text.now in
    subst (λ (i : ℕ). StartsWord (take (length text - i) (drop i text))) (sym c.unwrap_or.ensures) (skipped text c.first_byte.result (sym c.first_byte.ensures)).1
