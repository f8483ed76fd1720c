use Rattle.std.proofs.Common.{arith, ap, ◌∙◌, ◌+◌, ◌*◌}
use Rattle.btree_node.specs.Reading.{number_at, son_at, sons_at}
use Rattle.btree_node.proofs.PagePartLemmas.{read_more}
use Rattle.btree_node.proofs.decoding.push_sons.Goals as goal

pub loop-j-preserved : goal.loop-j-preserved
unfolding sons_at
loop-j-preserved c = record {
  items = read_more (son_at c.args.layout c.args.k c.args.page.now) c.loop-j.j c.loop-j.sons.items _ _ c.loop-j.invariant.items c.push.ensures.items
      (c.u32_of.ensures ∙ ap (λ start. number_at 4 (start + 4 * c.loop-j.j) c.args.page.now) c.sons_start-start.ensures.value);
  len = omega arith;
}
