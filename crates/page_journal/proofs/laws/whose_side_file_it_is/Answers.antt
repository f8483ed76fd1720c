use Rattle.std.proofs.Common.{arith}
use Rattle.page_journal.proofs.RestoreLemmas.{of_agree}
use Rattle.page_journal.proofs.ExampleLemmas.{word_own, word_other, word_short}
use Rattle.page_journal.proofs.laws.whose_side_file_it_is.Goals as goal

pub returns : goal.returns
returns c = record {
  same = of_agree;
  own = word_own;
  other = word_other;
  shorter = word_short;
  first_version = record { long = omega arith; rest = tt };
}
