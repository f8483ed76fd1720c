use Rattle.std.proofs.Common.{refl, ap, ◌∙◌}
use Rattle.tx_log.specs.LogState.{phase_in}
use Rattle.record_file.specs.Abstract.{OpenFile, phase_at}
use Rattle.record_file.proofs.InvariantLemmas.{file_known}
use Rattle.record_file.proofs.WholeTxLemmas.{rolling_whole}
use Rattle.record_file.proofs.file.RecordFile.start_rollback.Goals as goal

pub invariant_of-self : goal.invariant_of-self
invariant_of-self g c = file_known _ _ _ c.self.inside.log c.self.invariant c.start_rollback.ensures.kept c.args.tx.0 _ (phase_in c.self.inside.log c.args.tx.0) _ c.start_rollback.new.self (rolling_whole _ c.args.n c.args.ends c.requires.whole) refl (ap (λ (s : OpenFile _). phase_at s.file c.args.tx.0) c.self.view_is ∙ c.requires.active) c.start_rollback.ensures.after
