use Rattle.std.proofs.Common.{ap, ◌∙◌}
use Rattle.record_file.specs.Abstract.{OpenFile, use_of}
use Rattle.record_file.proofs.MadeLemmas.{log_use_made}
use Rattle.record_file.proofs.file.RecordFile.log_use.Goals as goal

pub returns : goal.returns
returns g c = log_use_made g.T.TableState _ _ (c.log_use.ensures.value ∙ ap (λ (s : OpenFile _). use_of s.file) c.self.view_is)
