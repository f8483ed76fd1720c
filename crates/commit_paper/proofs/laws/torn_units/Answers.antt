use Rattle.std.proofs.Common.{refl, ap, length}
use Rattle.commit_paper.proofs.Scans.{torn_log, reads_back}
use Rattle.commit_paper.proofs.laws.torn_units.Goals as goal

pub returns : goal.returns
returns c = record { torn = torn_log; read_back = reads_back; example = refl; no_zero = λ is. absurd (cc (ap length is)) }
