use Rattle.std.proofs.Common.{ap, ◌∙◌, ◌+◌, ◌*◌}
use Rattle.btree_node.specs.Reading.{number_at}
use Rattle.btree_node.proofs.SpeltPageLemmas.{son_spelt}
use Rattle.btree_node.proofs.spelt.son_in.Goals as goal

pub returns : goal.returns
returns c = λ node other can is low.
    c.u32_of.ensures ∙ ap (λ start. number_at 4 (start + 4 * c.args.j) c.args.page.now) c.sons_start.ensures.value ∙ son_spelt c.args.k c.args.page.now node c.args.j other c.requires.1 can is low
