use Rattle.std.proofs.Common.{rules}
use Rattle.record_file.proofs.MadeLemmas.{status_made}
use Rattle.record_file.proofs.file.RecordFile.status.Goals as goal

pub returns-in-None : goal.returns-in-None
returns-in-None g c = status_made g.T.TableState _ c.args.tx _ (search rules)

pub returns-in-Some-Active : goal.returns-in-Some-Active
returns-in-Some-Active g c = status_made g.T.TableState _ c.args.tx _ (search rules)

pub returns-in-Some-Rolling : goal.returns-in-Some-Rolling
returns-in-Some-Rolling g c = status_made g.T.TableState _ c.args.tx _ (search rules)
