use Rattle.std.proofs.Common.{arith, [], ap, ◌∙◌, length}
use Rattle.rec_types.proofs.Padding.{length-padded}
use Rattle.btree_node.proofs.page_writer.PageWriter.new.Goals as goal

pub invariant_of-result : goal.invariant_of-result
invariant_of-result c = record { within = omega arith; whole = ap length c.blank.ensures ∙ length-padded 4096 [] (omega arith); zeros = c.blank.ensures }
