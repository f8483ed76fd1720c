use Rattle.std.proofs.Common.{refl, arith}
use Rattle.page_journal.proofs.SideLemmas.{side_read, side_taken, only_taken}
use Rattle.page_journal.proofs.laws.side_file_by_bytes.Goals as goal

pub returns : goal.returns
returns c = record {
  read = side_read;
  taken = side_taken;
  only = only_taken;
  sum = refl;
  other_order = λ is. absurd (omega (arith, is));
  header = refl;
  old_header = refl;
  entry = refl;
  order = λ is. absurd (omega (arith, is.ascend.3.0));
  no_page_0 = λ is. absurd (omega (arith, is.page_0));
  past_the_end = λ is. absurd (omega (arith, is.ascend.3.1));
}
