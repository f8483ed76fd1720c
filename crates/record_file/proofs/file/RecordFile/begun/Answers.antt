use Rattle.std.proofs.Common.{rules, subst}
use Rattle.record_file.specs.Abstract.{OpenFile, IsKeptFile}
use Rattle.record_file.proofs.MadeLemmas.{begun_made}
use Rattle.record_file.proofs.OwnerLemmas.{kept_file}
use Rattle.record_file.proofs.file.RecordFile.begun.Goals as goal

pub returns-clause-kept : goal.returns-clause-kept
returns-clause-kept g c =
    subst (λ (s : OpenFile _). IsKeptFile (g.T.TableState.sound s.table) (g.T.TableState.contents s.table) (g.T.TableState.record_limit s.table) s.file s.log) c.self.view_is
    (kept_file _ _ _ c.self.inside.log c.self.invariant c.begun.ensures.kept c.begun.ensures.chained)

pub returns-clause-made : goal.returns-clause-made
returns-clause-made g c = begun_made g.T.TableState _ _ (search rules)
