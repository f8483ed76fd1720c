use Rattle.std.proofs.Common.{ap, ◌∙◌}
use Rattle.std.specs.FinMap as maps
use Rattle.record_file.proofs.file.RecordFile.count.Goals as goal

pub returns : goal.returns
returns g c = rw (← c.self.view_is) (λ sound. c.count.ensures.value sound ∙ ap maps.len (c.self.invariant.fits sound).replayed)
