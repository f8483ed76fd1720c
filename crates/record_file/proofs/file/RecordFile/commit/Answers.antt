use Rattle.std.proofs.Common.{rules}
use Rattle.record_file.proofs.InvariantLemmas.{file_ended}
use Rattle.record_file.proofs.MadeLemmas.{commit_made}
use Rattle.record_file.proofs.file.RecordFile.commit.Goals as goal

pub invariant_of-self : goal.invariant_of-self
invariant_of-self g c = file_ended _ _ _ c.self.inside.log c.self.invariant c.end.ensures.kept c.args.tx.0 c.end.new.self c.end.ensures.after

pub returns-in-None : goal.returns-in-None
returns-in-None g c = commit_made g.T.TableState _ _ c.args.tx _ (search rules) (search rules) (search rules)

pub returns-in-Some-Rolling : goal.returns-in-Some-Rolling
returns-in-Some-Rolling g c = commit_made g.T.TableState _ _ c.args.tx _ (search rules) (search rules) (search rules)

pub returns-in-Some-Active : goal.returns-in-Some-Active
returns-in-Some-Active g c = commit_made g.T.TableState _ _ c.args.tx _ (search rules) (search rules) (search rules)
