use Rattle.std.proofs.Common.{◌≤◌, length, ap, ◌∙◌, arith}
use Rattle.std.proofs.lemmas.List.{length-take-le}
use Rattle.rec_types.proofs.Fields.{record_cut, cut_bytes}
use Rattle.rec_types.proofs.record.ShortRecord.of.Goals as goal

-- the front of the record's field
pub invariant_of-result : goal.invariant_of-result
invariant_of-result c =
    let long = length-take-le c.record.inside.len c.record.inside.bytes (omega (arith, c.record.invariant.most, c.record.told)) in
    let few : c.record.inside.len ≤ 32 = omega (arith, long, ap length c.record.view_is, c.requires) in
    record_cut c.record.inside.bytes c.copy_from_slice.new.self c.record.inside.len few c.record.told c.record.invariant.zeros c.copy_from_slice.ensures.after

pub returns : goal.returns
returns c =
    let long = length-take-le c.record.inside.len c.record.inside.bytes (omega (arith, c.record.invariant.most, c.record.told)) in
    let few : c.record.inside.len ≤ 32 = omega (arith, long, ap length c.record.view_is, c.requires) in
    cut_bytes c.record.inside.bytes c.copy_from_slice.new.self c.record.inside.len few c.record.told c.record.invariant.zeros c.copy_from_slice.ensures.after
    ∙ c.record.view_is
