use Rattle.std.proofs.Common.{ℕ, List, length, get_or, ap, refl, arith}
use Rattle.line_prompt.proofs.laws.first_lines_by_example.Goals as goal

pub returns : goal.returns
returns c = record {
  whole = refl;
  front = refl;
  both = λ is. absurd (omega (arith, ap (λ (l : List ℕ). length l) is));
  second = λ is. absurd (omega (arith, ap (λ (l : List ℕ). get_or l 0 0) is));
  cut = λ is. absurd (omega (arith, ap (λ (l : List ℕ). length l) is));
  unknown = λ room given. tt;
}
