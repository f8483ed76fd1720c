use Rattle.std.proofs.Common.{refl}
use Rattle.page_journal.proofs.RestoreLemmas.{restores_same}
use Rattle.page_journal.proofs.ExampleLemmas.{page_1_agrees, both_disagree, both_not_restored}
use Rattle.page_journal.proofs.laws.old_pages_put_back.Goals as goal

pub returns : goal.returns
returns c = record {
  same = restores_same;
  agree = page_1_agrees;
  example = refl;
  disagree = both_disagree;
  not_kept = both_not_restored;
}
