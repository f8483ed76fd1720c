use Rattle.std.proofs.Common.{arith, ap, ◌∙◌}
use Rattle.btree_node.specs.Reading.{element_in, elements_at, place_at}
use Rattle.btree_node.proofs.PagePartLemmas.{read_more}
use Rattle.btree_node.proofs.decoding.elements_of.Goals as goal

pub loop-i-preserved : goal.loop-i-preserved
unfolding elements_at
loop-i-preserved c = record {
  items = read_more (λ i. element_in (place_at c.args.layout c.args.page.now i)) c.loop-i.i c.loop-i.elements.items _ _ c.loop-i.invariant.items c.push.ensures.items
      (c.element_of.ensures ∙ ap element_in c.place_of_page.ensures.value);
  len = omega arith;
}
