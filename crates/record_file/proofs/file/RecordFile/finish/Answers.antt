use Rattle.record_file.proofs.InvariantLemmas.{file_finished}
use Rattle.record_file.proofs.file.RecordFile.finish.Goals as goal

pub invariant_of-self : goal.invariant_of-self
invariant_of-self g c = file_finished _ _ _ c.self.inside.log c.self.invariant c.finish.ensures.kept c.args.tx.0 c.finish.new.self c.finish.ensures.after
