use Rattle.std.proofs.Common.{rules}
use Rattle.record_file.proofs.InvariantLemmas.{file_ended, file_same}
use Rattle.record_file.proofs.file.RecordFile.commit_kept.Goals as goal

pub invariant_of-self : goal.invariant_of-self
invariant_of-self g c = file_same _ _ _ _ _ _ c.self.inside.log c.keep.ensures.same.soundness c.keep.ensures.same.contents c.keep.ensures.same.limit c.self.invariant

pub invariant_of-self-2 : goal.invariant_of-self-2
invariant_of-self-2 g c = file_ended _ _ _ c.self.inside.log (file_same _ _ _ _ _ _ c.self.inside.log c.keep.ensures.same.soundness c.keep.ensures.same.contents c.keep.ensures.same.limit c.self.invariant) c.end.ensures.kept c.args.tx.0 c.end.new.self c.end.ensures.after

pub returns-clause-asked : goal.returns-clause-asked
returns-clause-asked g c = search rules
