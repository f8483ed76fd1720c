use Rattle.std.proofs.Common.{◌+◌, ap, ◌∙◌, ◌++◌, arith, length, replicate, take}
use Rattle.std.proofs.lemmas.List.{length-take-le}
use Rattle.btree_node.proofs.WriterLemmas.{skipped, written_more}
use Rattle.btree_node.proofs.page_writer.PageWriter.skip.Goals as goal

pub invariant_of-self : goal.invariant_of-self
invariant_of-self c = skipped c.self.inside (c.self.inside.at + c.args.count) c.self.invariant (omega arith) (omega (arith, c.requires, ap length c.self.view_is, length-take-le c.self.inside.at c.self.inside.page (omega arith)))

pub returns : goal.returns
returns c =
    rw (← c.self.view_is) (written_more c.self.inside (c.self.inside.at + c.args.count) c.self.invariant (omega arith) (omega (arith, c.requires, ap length c.self.view_is, length-take-le c.self.inside.at c.self.inside.page (omega arith))) ∙ ap (λ n. take c.self.inside.at c.self.inside.page ++ replicate n 0) (omega arith))
