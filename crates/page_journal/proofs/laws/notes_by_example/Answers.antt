use Rattle.std.proofs.Common.{refl}
use Rattle.page_journal.proofs.FileExampleLemmas.{first_lost, last_left_out, sync_told_as_done}
use Rattle.page_journal.proofs.laws.notes_by_example.Goals as goal

pub returns : goal.returns
returns g c = record {
  seen = refl;
  lost = first_lost;
  moment = refl;
  left_out = last_left_out;
  told_as_done = sync_told_as_done;
}
