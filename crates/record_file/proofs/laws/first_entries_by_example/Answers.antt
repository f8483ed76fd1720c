use Rattle.std.proofs.Common.{length, ap, refl, arith}
use Rattle.record_file.proofs.laws.first_entries_by_example.Goals as goal

pub returns : goal.returns
returns c = record {
  one = refl;
  none = refl;
  all = refl;
  enough = (omega arith, refl);
  both = λ told. absurd (omega (arith, ap length told.1));
  too_soon = λ told. absurd (omega (arith, told.0));
  refused = refl;
  other = λ is. absurd (omega (arith, ap length is));
  other_fault = λ is. absurd (cc);
}
