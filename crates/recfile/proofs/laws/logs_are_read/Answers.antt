use Rattle.file_session.proofs.LogLemmas.{log_said, log_found, unit_logged, found_in_order, open_unit, no_rollback}
use Rattle.recfile.proofs.laws.logs_are_read.Goals as goal

pub returns : goal.returns
returns c = record {
  said = log_said;
  found = log_found;
  logged = unit_logged;
  newest_first = found_in_order;
  uncommitted = open_unit;
  rollback = no_rollback;
}
