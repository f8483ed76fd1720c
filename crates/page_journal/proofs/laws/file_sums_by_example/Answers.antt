use Rattle.std.proofs.Common.{refl, arith}
use Rattle.page_journal.proofs.laws.file_sums_by_example.Goals as goal

pub returns : goal.returns
returns c = record {
  none = refl;
  one = refl;
  other_order = λ is. absurd (omega (arith, is));
  shorter = λ is. absurd (omega (arith, is));
}
