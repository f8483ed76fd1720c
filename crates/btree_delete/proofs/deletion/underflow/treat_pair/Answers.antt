use Rattle.std.proofs.Common.{◌≡◌, ◌+◌, ℕ, suc, inr, List, [], ◌∷◌, ◌++◌, get_or, ap, sym, ◌∙◌, subst, arith}
use Rattle.std.proofs.lemmas.Grind.{common_steps, elements}
use Rattle.std.proofs.lemmas.List.{get_or_default}
use Rattle.btree_node.specs.Layout.{second_layout}
use Rattle.btree_node.specs.Lists.{Element, Each}
use Rattle.btree_node.specs.Spelling.{ElementFits}
use Rattle.btree_delete.specs.Treatment.{element_at}
use Rattle.btree_delete.proofs.UnderfullNodeLemmas.{distributed}
use Rattle.btree_delete.proofs.deletion.underflow.treat_pair.Goals as goal

pub returns-clause-treats : goal.returns-clause-treats
returns-clause-treats c =
    let x = c.index-deref-i.result in
    let middle_is : x ≡ element_at c.args.father.now c.args.i =
    c.index-deref-i.is ∙ ap (λ (xs : List Element). get_or xs c.args.i x) c.deref.ensures.0 ∙ get_or_default c.args.father.now.elements.items c.args.i x ([], []) c.requires.place in
    let next : c.args.i + 1 ≡ suc c.args.i = omega arith in
    let fit = subst (λ (m : Element). Each (ElementFits second_layout) (c.args.left.elements.items ++ m ∷ c.args.right.elements.items)) (sym middle_is) c.requires.fit in
    let stand = c.distribute-left.ensures.stand fit in
    inr (distributed c.args.order c.args.i c.args.father.now c.set_element.new.node c.args.left c.args.right x c.distribute-left.result.1 c.distribute-left.result.0 c.distribute-left.result.2 (get_or c.deref-2.result.now c.args.i 0) (get_or c.deref-3.result.now (c.args.i + 1) 0) c.args.edit.now.writes.items c.write_node-2.new.edit.writes.items c.write_node-3.new.edit.writes.items c.args.edit.now.freed.items c.write_node-3.new.edit.freed.items
    middle_is (omega arith) c.set_element.ensures.kind c.set_element.ensures.elements (ap (λ s. s.items) c.set_element.ensures.sons) c.distribute-left.ensures.left (c.distribute-left.ensures.middle ([], [])) c.distribute-left.ensures.right stand.0 stand.1
    (ap (λ (xs : List ℕ). get_or xs c.args.i 0) c.deref-2.ensures.0) (ap (λ (xs : List ℕ). get_or xs (c.args.i + 1) 0) c.deref-3.ensures.0 ∙ ap (λ (j : ℕ). get_or c.args.father.now.sons.items j 0) next) c.in_ok-write_node-2.ensures.writes c.in_ok-write_node-3.ensures.writes
    (ap (λ v. v.items) (c.in_ok-write_node-3.ensures.edit.freed ∙ c.in_ok-write_node-2.ensures.edit.freed)))

pub catenate-node-requires-clause-brothers : goal.catenate-node-requires-clause-brothers
catenate-node-requires-clause-brothers c = grind (arith, common_steps)

pub write_node-requires-clause-stands : goal.write_node-requires-clause-stands
write_node-requires-clause-stands c = grind (arith, common_steps)

pub returns-then-len-order-clause-treats : goal.returns-then-len-order-clause-treats
returns-then-len-order-clause-treats c = grind (arith, elements)

pub distribute-left-requires-clause-brothers : goal.distribute-left-requires-clause-brothers
distribute-left-requires-clause-brothers c = grind (arith, common_steps)

pub write_node-requires-2-clause-stands : goal.write_node-requires-2-clause-stands
write_node-requires-2-clause-stands c = grind (arith, common_steps)

pub write_node-requires-3-clause-stands : goal.write_node-requires-3-clause-stands
write_node-requires-3-clause-stands c = grind (arith, common_steps)
