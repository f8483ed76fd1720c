use Rattle.std.proofs.Common.{◌-◌, ap, ◌∙◌, ◌++◌, arith, length, replicate, take}
use Rattle.std.proofs.lemmas.List.{length-take-le}
use Rattle.rec_types.specs.Padded.{padded}
use Rattle.btree_node.proofs.WriterLemmas.{skipped, written_more}
use Rattle.btree_node.proofs.page_writer.PageWriter.skip_to.Goals as goal

pub invariant_of-self : goal.invariant_of-self
invariant_of-self c = skipped c.self.inside c.args.at c.self.invariant (omega (arith, c.requires.behind, ap length c.self.view_is, length-take-le c.self.inside.at c.self.inside.page (omega arith))) c.requires.within

pub returns-clause-value : goal.returns-clause-value
unfolding padded
returns-clause-value c =
    let len = length-take-le c.self.inside.at c.self.inside.page (omega arith) in
    rw (← c.self.view_is) (written_more c.self.inside c.args.at c.self.invariant (omega (arith, c.requires.behind, ap length c.self.view_is, len)) c.requires.within ∙ ap (λ n. take c.self.inside.at c.self.inside.page ++ replicate (c.args.at - n) 0) (omega (arith, len)))

pub returns-clause-len : goal.returns-clause-len
returns-clause-len c = length-take-le c.args.at c.self.inside.page (omega (arith, c.self.invariant.whole, c.requires.within))
