use Rattle.std.proofs.Common.{◌∙◌}
use Rattle.record_file.proofs.FileLemmas.{charged_count}
use Rattle.record_file.proofs.MadeLemmas.{charged_made}
use Rattle.record_file.proofs.file.RecordFile.charged.Goals as goal

pub returns : goal.returns
returns g c = rw (← c.self.view_is) (charged_made g.T.TableState _ _ (λ sound. charged_count c.self.inside.log (g.T.TableState.contents c.self.inside.table) c.from.result c.from-2.result (c.self.invariant.fits sound) c.absent_owned.ensures.log (c.from.ensures ∙ c.count.ensures.value sound) (c.from-2.ensures ∙ c.absent_owned.ensures.value)))
