use Rattle.std.proofs.Common.{rules}
use Rattle.record_file.proofs.InvariantLemmas.{file_known}
use Rattle.record_file.proofs.MadeLemmas.{savepoint_made}
use Rattle.record_file.proofs.file.RecordFile.savepoint.Goals as goal

pub invariant_of-self : goal.invariant_of-self
invariant_of-self g c = file_known _ _ _ c.self.inside.log c.self.invariant c.savepoint.ensures.kept c.args.tx.0 _ c.phase.result _ c.savepoint.new.self tt c.phase.ensures c.in-Some-Active.is c.savepoint.ensures.after

pub returns-in-None : goal.returns-in-None
returns-in-None g c = savepoint_made g.T.TableState _ _ c.args.tx _ (search rules) (search rules) (search rules)

pub returns-in-Some-Rolling : goal.returns-in-Some-Rolling
returns-in-Some-Rolling g c = savepoint_made g.T.TableState _ _ c.args.tx _ (search rules) (search rules) (search rules)

pub returns-then-depth-ge-MOST_SAVEPOINTS : goal.returns-then-depth-ge-MOST_SAVEPOINTS
returns-then-depth-ge-MOST_SAVEPOINTS g c = savepoint_made g.T.TableState _ _ c.args.tx _ (search rules) (search rules) (search rules)

pub returns-else-depth-ge-MOST_SAVEPOINTS : goal.returns-else-depth-ge-MOST_SAVEPOINTS
returns-else-depth-ge-MOST_SAVEPOINTS g c = savepoint_made g.T.TableState _ _ c.args.tx _ (search rules) (search rules) (search rules)
