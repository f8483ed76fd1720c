use Rattle.std.proofs.Common.{ℕ, List, get_or, refl, ap, arith}
use Rattle.percent_encoding.specs.Percent.{percent_encode_byte}
use Rattle.command_text.specs.Texts.{escaped}
use Rattle.command_text.proofs.EscapeLaws.{read_back, plain}
use Rattle.command_text.proofs.laws.escapes.Goals as goal

pub returns-clause-read_back : goal.returns-clause-read_back
returns-clause-read_back c = read_back

pub returns-clause-plain : goal.returns-clause-plain
returns-clause-plain c = plain

pub returns-clause-upper_case : goal.returns-clause-upper_case
unfolding percent_encode_byte escaped
returns-clause-upper_case c = refl

pub returns-clause-lower_case : goal.returns-clause-lower_case
unfolding percent_encode_byte escaped
returns-clause-lower_case c = λ is. absurd (omega (arith, ap (λ (text : List ℕ). get_or text 1 0) is))
