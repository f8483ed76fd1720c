use Rattle.rec_types.proofs.Fields.{short_grown}
use Rattle.rec_types.proofs.record.ShortRecord.record.Goals as goal

-- the field over the front of zeros
pub invariant_of-result : goal.invariant_of-result
invariant_of-result c = short_grown c.self.inside.bytes _ c.self.inside.len c.self.invariant.most c.self.told c.self.invariant.zeros c.copy_from_slice.ensures.after
