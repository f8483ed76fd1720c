use Rattle.std.proofs.Common.{rules}
use Rattle.record_file.proofs.InvariantLemmas.{file_known}
use Rattle.record_file.proofs.MadeLemmas.{release_made}
use Rattle.record_file.proofs.file.RecordFile.release.Goals as goal

pub invariant_of-self : goal.invariant_of-self
invariant_of-self g c = file_known _ _ _ c.self.inside.log c.self.invariant c.release.ensures.kept c.args.tx.0 _ c.phase.result _ c.release.new.self tt c.phase.ensures c.in-Some-Active.is c.release.ensures.after

pub returns-in-None : goal.returns-in-None
returns-in-None g c = release_made g.T.TableState _ _ c.args.tx c.args.n _ (search rules) (search rules) (search rules)

pub returns-in-Some-Rolling : goal.returns-in-Some-Rolling
returns-in-Some-Rolling g c = release_made g.T.TableState _ _ c.args.tx c.args.n _ (search rules) (search rules) (search rules)

pub returns-then-n-eq0 : goal.returns-then-n-eq0
returns-then-n-eq0 g c = release_made g.T.TableState _ _ c.args.tx c.args.n _ (search rules) (search rules) (search rules)

pub returns-else-n-depth : goal.returns-else-n-depth
returns-else-n-depth g c = release_made g.T.TableState _ _ c.args.tx c.args.n _ (search rules) (search rules) (search rules)
