use Rattle.std.proofs.Common.{Ok, refl}
use Rattle.record_file.specs.Examples.{entries_at_a_and_b}
use Rattle.recfile.proofs.laws.ordered_reads_by_example.Goals as goal

pub returns : goal.returns
returns c = record {
  from = λ old. (Ok entries_at_a_and_b, refl, refl);
  other_side = λ old told. let no = told.1 in absurd (cc);
  unasked = λ old told. let no = told.1 in absurd (cc);
}
