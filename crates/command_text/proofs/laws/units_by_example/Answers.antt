use Rattle.std.proofs.Common.{◌≡◌, ◌∷◌, [], Some, None, codes, refl}
use Rattle.std.specs.Fmt.{digits}
use Rattle.commit_paper.specs.Text.{IsUnit}
use Rattle.command_text.specs.Texts.{escaped}
use Rattle.command_text.specs.Units.{unit_lines}
use Rattle.command_text.proofs.UnitLemmas.{is_line}
use Rattle.command_text.proofs.laws.units_by_example.Goals as goal

lines_are : unit_lines 3 ((97 ∷ [], Some (120 ∷ [])) ∷ (98 ∷ [], None) ∷ []) ≡ codes "begin" ∷ codes "put 3 a =x" ∷ codes "del 3 b" ∷ codes "commit 3" ∷ []
unfolding digits escaped
lines_are = refl

is_unit : IsUnit (codes "begin" ∷ codes "put 3 a =x" ∷ codes "commit 3" ∷ [])
is_unit = (is_line (codes "begin") refl, refl, (is_line (codes "put 3 a =x") refl, refl, (is_line (codes "commit 3") refl, refl)))

pub returns : goal.returns
returns c = record {
  lines = lines_are;
  unit = is_unit;
  claim = λ is. absurd (cc (is.2.1));
  uncommitted = λ is. absurd (cc (is.2.1));
}
