use Rattle.std.proofs.Common.{rules}
use Rattle.record_file.proofs.MadeLemmas.{keys_of_made}
use Rattle.record_file.proofs.file.RecordFile.keys_of.Goals as goal

pub returns : goal.returns
returns g c = keys_of_made g.T.TableState _ c.args.tx _ (search rules)

pub returns-then-is_none : goal.returns-then-is_none
returns-then-is_none g c = keys_of_made g.T.TableState _ c.args.tx _ (search rules)

pub returns-in_err-keys_of : goal.returns-in_err-keys_of
returns-in_err-keys_of g c = keys_of_made g.T.TableState _ c.args.tx _ (search rules)
