use Rattle.recfile.proofs.SettledOnceLemmas.{commits_of_own, failed_unsaid, journal_of_own, lost_by_settling, settled_with_log, settled_with_others, unfailed_device, unfound_stays}
use Rattle.recfile.proofs.laws.settlings_by_example.Goals as goal

pub returns : goal.returns
returns c = record {
  dropped = settled_with_others;
  log_left = settled_with_log;
  lost_on_the_way = lost_by_settling;
  written_over = unfound_stays;
  journal_blamed = journal_of_own;
  healthy_refused = commits_of_own;
  disk_blamed = unfailed_device;
  failure_hidden = failed_unsaid;
}
