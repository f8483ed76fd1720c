use Rattle.std.proofs.Common.{ap, arith, refl, length}
use Rattle.std.proofs.lemmas.Grind.{common_steps}
use Rattle.std.proofs.lemmas.List.{length-take-le}
use Rattle.btree_node.proofs.WriterLemmas.{put_written}
use Rattle.btree_node.proofs.page_writer.PageWriter.put.Goals as goal

pub invariant_of-self : goal.invariant_of-self
invariant_of-self c = put_written c.self.inside c.args.bytes.now _ _ _ c.self.invariant (omega (arith, c.requires, ap length c.self.view_is, length-take-le c.self.inside.at c.self.inside.page (omega arith))) c.copy_from_slice.ensures.after (omega arith) refl

pub returns : goal.returns
returns c = grind (arith, common_steps)
