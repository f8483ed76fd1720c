use Rattle.std.proofs.Common.{◌∙◌}
use Rattle.command_text.proofs.PlainLemmas.{plain_key}
use Rattle.command_text.proofs.argument.key_at.Goals as goal

-- a word without `%` is its own bytes
pub returns-then-not-has_percent : goal.returns-then-not-has_percent
returns-then-not-has_percent c = c.key_of_bytes.ensures ∙ plain_key c.args.word.now (cc (c.has_percent.ensures, c.if-not-has_percent.true))
