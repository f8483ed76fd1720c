use Rattle.std.proofs.Common.{rules}
use Rattle.record_file.proofs.InvariantLemmas.{file_begun}
use Rattle.record_file.proofs.MadeLemmas.{begin_made}
use Rattle.record_file.proofs.file.RecordFile.begin.Goals as goal

pub invariant_of-self : goal.invariant_of-self
invariant_of-self g c = file_begun _ _ _ c.self.inside.log c.self.invariant c.begin.ensures.kept c.begin.result c.begin.new.self c.begin.ensures.ok c.begin.ensures.err

pub returns : goal.returns
returns g c = begin_made g.T.TableState _ _ _ (search rules) (search rules) (search rules)
