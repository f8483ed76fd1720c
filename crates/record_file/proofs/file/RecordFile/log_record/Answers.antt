use Rattle.std.proofs.Common.{rules}
use Rattle.record_file.proofs.MadeLemmas.{log_record_made}
use Rattle.record_file.proofs.file.RecordFile.log_record.Goals as goal

pub returns : goal.returns
returns g c = log_record_made g.T.TableState _ c.args.lsn _ (search rules)
