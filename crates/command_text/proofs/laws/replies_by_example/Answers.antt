use Rattle.std.proofs.Common.{ℕ, List, get_or, refl, ap, arith}
use Rattle.std.specs.Fmt.{digits}
use Rattle.percent_encoding.specs.Percent.{percent_encode_byte}
use Rattle.command_text.specs.Texts.{escaped}
use Rattle.command_text.proofs.laws.replies_by_example.Goals as goal

pub returns : goal.returns
unfolding digits percent_encode_byte escaped
returns c = record {
  begun = refl;
  none = refl;
  held = refl;
  stopped = refl;
  list = refl;
  run = refl;
  run_in_order = λ is. absurd (omega (arith, ap (λ (text : List ℕ). get_or text 0 0) is));
}
