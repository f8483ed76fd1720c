use Rattle.std.proofs.Common.{rules}
use Rattle.record_file.proofs.MadeLemmas.{log_len_made}
use Rattle.record_file.proofs.file.RecordFile.log_len.Goals as goal

pub returns : goal.returns
returns g c = log_len_made g.T.TableState _ _ (search rules)
