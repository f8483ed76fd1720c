use Rattle.std.proofs.Common.{ap, ◌∙◌, ◌+◌, ◌*◌, arith}
use Rattle.btree_node.specs.Reading.{number_at, sons_at}
use Rattle.btree_node.proofs.NodePageLemmas.{son_more}
use Rattle.btree_node.proofs.node_page.sons_are_set.Goals as goal

pub loop-j-init : goal.loop-j-init
unfolding sons_at
loop-j-init c = λ k d low. absurd (omega (arith, low))

pub loop-j-preserved : goal.loop-j-preserved
loop-j-preserved c =
    son_more c.args.k c.args.page.now c.loop-j.j c.u32_of.result c.loop-j.invariant
    (c.u32_of.ensures ∙ ap (λ start. number_at 4 (start + 4 * c.loop-j.j) c.args.page.now) c.sons_start-start.ensures.value) (omega arith)
