use Rattle.std.proofs.Common.{List, take, ap, sym, subst, ◌∙◌, [], ◌∷◌, ◌++◌}
use Rattle.std.proofs.lemmas.List.{take_more}
use Rattle.btree_node.specs.Lists.{Element, Each}
use Rattle.btree_node.specs.Spelling.{IsElement}
use Rattle.btree_node.proofs.ElementOrderLemmas.{Each-append}
use Rattle.btree_load.proofs.rows.page_of.Goals as goal

pub loop-element-preserved : goal.loop-element-preserved
loop-element-preserved c = record {
  same = c.push.ensures.items
      ∙ ap (λ (es : List Element). es ++ c.element_of.result ∷ []) c.loop-element.invariant.same
      ∙ ap (λ (e : Element). take c.loop-element.element-index c.args.elements.now ++ e ∷ []) (c.element_of.ensures.value ∙ c.element-item.is)
      ∙ sym (take_more c.args.elements.now c.loop-element.element-index c.element-item.result c.loop-element-test.true);
  fit = subst (Each IsElement) (sym c.push.ensures.items) (Each-append IsElement c.loop-element.page.items (c.element_of.result ∷ []) c.loop-element.invariant.fit (c.element_of.ensures.fits, tt));
}
