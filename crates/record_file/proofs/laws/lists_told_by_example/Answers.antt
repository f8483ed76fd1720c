use Rattle.std.proofs.Common.{[], ◌∷◌, length, ap, refl, arith}
use Rattle.record_file.specs.Examples.{owned_at_a}
use Rattle.record_file.proofs.laws.lists_told_by_example.Goals as goal

pub returns : goal.returns
returns c = record {
  whole = refl;
  stopped = (refl, refl);
  fault = (refl, (owned_at_a ∷ [], refl));
  first_alone = λ told. absurd (omega (arith, ap length told));
  other_stop = λ told. absurd (omega (arith, told.1));
  made_up = λ told. told;
  other_fault = λ told. let no = told.0 in absurd (cc);
  left_out = λ told. told;
}
