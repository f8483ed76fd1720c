use Rattle.std.proofs.Common.{arith}
use Rattle.std.proofs.lemmas.Grind.{common_steps}
use Rattle.btree_node.proofs.WriterLemmas.{field_written}
use Rattle.btree_node.proofs.page_writer.PageWriter.put_field.Goals as goal

pub returns-clause-value : goal.returns-clause-value
returns-clause-value c =
    let e = field_written c.args.self.now c.args.bytes.now c.args.width c.requires.fits in
    cc (c.put.ensures, c.put-2.ensures, c.skip.ensures)

pub put-requires-2 : goal.put-requires-2
put-requires-2 c = grind (arith, common_steps)

pub skip-requires : goal.skip-requires
skip-requires c = grind (arith, common_steps)

pub returns-clause-len : goal.returns-clause-len
returns-clause-len c = grind (arith, common_steps)
