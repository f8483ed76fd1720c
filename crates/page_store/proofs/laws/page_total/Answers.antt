use Rattle.std.proofs.Common.{refl}
use Rattle.page_store.proofs.Totals.{page_total, example_used}
use Rattle.page_store.proofs.laws.page_total.Goals as goal

pub returns : goal.returns
returns c = record {
  total = page_total;
  example = refl;
  used = example_used;
  twice = λ same. absurd (cc);
  missing = λ same. absurd (cc);
}
