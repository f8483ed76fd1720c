use Rattle.file_session.proofs.LogOverLemmas.{empty_log, once_put, other_file, other_version, over_again, over_once, unalone}
use Rattle.recfile.proofs.laws.openings_find_commits.Goals as goal

pub returns : goal.returns
returns c = record {
  over = once_put;
  again = over_again;
  once = over_once;
  other_file = other_file;
  other_version = other_version;
  not_alone = unalone;
  empty = empty_log;
}
