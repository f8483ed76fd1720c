use Rattle.std.proofs.Common.{ℕ, ◌+◌, ◌∙◌, ◌*◌, ◌≡◌, sym, subst, arith, length}
use Rattle.btree_node.specs.declared.node.Node.{Node}
use Rattle.btree_node.specs.Spelling.{CanStand, spelling}
use Rattle.btree_insert.specs.Growth.{WritesFit}
use Rattle.btree_insert.proofs.EditFitLemmas.{wrote_fits, took_fits, up_fits}
use Rattle.btree_insert.proofs.ChangedTreeLemmas.{left_half, right_half}
use Rattle.btree_insert.proofs.insert_below.settle.Goals as goal

pub write_node-requires-2-clause-stands : goal.write_node-requires-2-clause-stands
write_node-requires-2-clause-stands g c =
    let full : length c.args.node.elements.items ≡ 2 * c.args.order + 1 = omega (arith, c.len.ensures.value, c.requires.may_be_overfull.most) in
    subst (λ (n : Node). CanStand n c.args.order) (sym c.split-left.ensures.left) (left_half c.args.order c.args.node c.requires.order.0 full c.requires.may_be_overfull)

pub write_node-requires-3-clause-stands : goal.write_node-requires-3-clause-stands
write_node-requires-3-clause-stands g c =
    let full : length c.args.node.elements.items ≡ 2 * c.args.order + 1 = omega (arith, c.len.ensures.value, c.requires.may_be_overfull.most) in
    subst (λ (n : Node). CanStand n c.args.order) (sym c.split-left.ensures.right) (right_half c.args.order c.args.node c.requires.order.0 full c.requires.may_be_overfull)

pub returns-then-len-order-clause-edit : goal.returns-then-len-order-clause-edit
returns-then-len-order-clause-edit g c = record {
  fits = wrote_fits c.args.pages.now.pages c.args.edit.now.writes.items _ c.args.edit.now.taken _ c.args.n (spelling c.args.node c.args.order) c.in_ok-write_node.ensures.writes c.in_ok-write_node.ensures.edit.taken c.requires.in_use c.requires.fits;
  spelt = c.in_ok-write_node.ensures.edit.spelt;
  freed = c.in_ok-write_node.ensures.edit.freed;
}

pub returns-clause-edit : goal.returns-clause-edit
returns-clause-edit g c =
    let first = wrote_fits c.args.pages.now.pages c.args.edit.now.writes.items c.write_node-2.new.edit.writes.items c.args.edit.now.taken c.write_node-2.new.edit.taken c.args.n (spelling c.split-left.result.0 c.args.order) c.in_ok-write_node-2.ensures.writes c.in_ok-write_node-2.ensures.edit.taken c.requires.in_use c.requires.fits in record {
      fits = took_fits c.args.pages.now.pages c.write_node-2.new.edit.writes.items c.write_node-3.new.edit.writes.items c.args.edit.now.taken (c.write_node-3.new.edit.taken + 1) c.candidate-number.result (spelling c.split-left.result.2 c.args.order)
          c.in_ok-write_node-3.ensures.writes (omega (arith, c.in_ok-write_node-3.ensures.edit.taken, c.in_ok-write_node-2.ensures.edit.taken)) c.candidate-number.ensures.value
          (subst (λ (t : ℕ). WritesFit c.args.pages.now.pages c.write_node-2.new.edit.writes.items t) c.in_ok-write_node-2.ensures.edit.taken first);
      spelt = λ spelt. c.in_ok-write_node-3.ensures.edit.spelt (c.in_ok-write_node-2.ensures.edit.spelt spelt);
      freed = c.in_ok-write_node-3.ensures.edit.freed ∙ c.in_ok-write_node-2.ensures.edit.freed;
    }

pub returns-clause-goes_up : goal.returns-clause-goes_up
returns-clause-goes_up g c = λ bounds within.
    let some = c.candidate-number.ensures.some in
    up_fits bounds c.args.order c.args.node c.split-left.result.1 c.args.order c.candidate-number.result c.requires.may_be_overfull within (omega (arith, c.len.ensures.value)) (c.split-left.ensures.middle c.split-left.result.1) (omega arith) c.candidate-number.type_inv
