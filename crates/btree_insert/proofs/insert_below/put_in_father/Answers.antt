use Rattle.std.proofs.Common.{◌≡◌, ◌+◌, suc, refl, ap, sym, ◌∙◌, subst, arith, IfOk}
use Rattle.std.specs.List.{insert}
use Rattle.page_store.specs.FreeNumbers.{candidate}
use Rattle.btree_node.specs.declared.node.Node.{Node}
use Rattle.btree_insert.specs.Bounds.{AreWithin}
use Rattle.btree_insert.specs.Growth.{MayBeOverfull, WritesOrSplits, with_son}
use Rattle.std.proofs.lemmas.List.Edits.{length-insert}
use Rattle.btree_node.specs.Spelling.{spelling}
use Rattle.btree_insert.proofs.EditFitLemmas.{wrote_fits}
use Rattle.btree_insert.proofs.OnePageLemmas.{same_parts}
use Rattle.btree_insert.proofs.PlaceLemmas.{inner_may_be_overfull}
use Rattle.btree_insert.proofs.insert_below.put_in_father.Given as given
use Rattle.btree_insert.proofs.insert_below.put_in_father.Goals as goal
use Rattle.btree_insert.proofs.insert_below.put_in_father.Goals.{After-insert-2}

pub write_with_son-requires-clause-father : goal.write_with_son-requires-clause-father
write_with_son-requires-clause-father g c = λ m can is.
    (c.requires.father m can is, omega (arith, c.if-count_in-order.true, c.count_in.ensures.node c.args.order m c.requires.order.1 can is))

pub returns-then-count_in-order-clause-settles : goal.returns-then-count_in-order-clause-settles
returns-then-count_in-order-clause-settles g c = λ m can is.
    let gains = c.requires.father m can is in (
      omega (arith, length-insert m.elements.items c.args.i c.args.middle gains.place.within, c.if-count_in-order.true, c.count_in.ensures.node c.args.order m c.requires.order.1 can is),
      c.in_ok-write_with_son.ensures.writes m can is,
      c.in_ok-write_with_son.ensures.edit.taken,
    )

pub returns-then-count_in-order-clause-edit : goal.returns-then-count_in-order-clause-edit
returns-then-count_in-order-clause-edit g c =
    let spelt = c.requires.page in
    record {
      fits = wrote_fits c.args.pages.now.pages c.args.edit.now.writes.items c.write_with_son.new.edit.writes.items c.args.edit.now.taken c.write_with_son.new.edit.taken c.args.n (spelling (with_son spelt.0 c.args.i c.args.middle c.args.right) c.args.order)
          (c.in_ok-write_with_son.ensures.writes spelt.0 spelt.1 spelt.2) c.in_ok-write_with_son.ensures.edit.taken c.requires.room.in_use c.requires.room.fits;
      spelt = c.in_ok-write_with_son.ensures.edit.spelt;
      freed = c.in_ok-write_with_son.ensures.edit.freed;
    }

-- the node with the element and the son
module _ (g : given.Over) (c : After-insert-2 g) where
  abbrev longer : Node
  longer = record { kind = c.decode_into.new.node.kind; elements = c.insert.new.self; sons = c.insert-2.new.self }

  longer_is : (m : Node) → c.decode_into.new.node ≡ m → longer ≡ with_son m c.args.i c.args.middle c.args.right
  longer_is m is =
      let next_is : c.args.i + 1 ≡ suc c.args.i = omega arith in
      same_parts longer (with_son m c.args.i c.args.middle c.args.right) (ap (λ (n : Node). n.kind) is)
      (c.insert.ensures.items ∙ ap (λ (n : Node). insert n.elements.items c.args.i c.args.middle) is)
      (c.insert-2.ensures.items ∙ ap (λ j. insert c.decode_into.new.node.sons.items j c.args.right) next_is ∙ ap (λ (n : Node). insert n.sons.items (suc c.args.i) c.args.right) is)

pub settle-requires-clause-may_be_overfull : goal.settle-requires-clause-may_be_overfull
settle-requires-clause-may_be_overfull g c =
    let spelt = c.requires.page in
    let m = spelt.0 in
    let gains = c.requires.father m spelt.1 spelt.2 in
    let is = longer_is g (goal.at.settle-requires-clause-may_be_overfull g c).After-insert-2 m (c.decode_into.ensures.only m spelt.1 spelt.2).1 in
    subst (MayBeOverfull c.args.order) (sym is)
    (inner_may_be_overfull c.args.order m (with_son m c.args.i c.args.middle c.args.right) c.args.i c.args.right c.args.middle spelt.1 gains.inner gains.place c.requires.element gains.can_be refl refl refl)

pub returns-clause-settles : goal.returns-clause-settles
returns-clause-settles g c = λ m can is.
    subst (λ (n : Node). IfOk c.settle.result (WritesOrSplits c.args.order (candidate c.args.pages.now.pages c.args.edit.now.taken) c.args.edit.now c.settle.new.edit c.args.n n))
    (longer_is g (goal.at.returns-clause-settles g c).After-insert-2 m (c.decode_into.ensures.only m can is).1) c.settle.ensures.settles

pub returns-clause-goes_up : goal.returns-clause-goes_up
returns-clause-goes_up g c = λ m can is bounds within.
    c.settle.ensures.goes_up bounds (subst (λ (n : Node). AreWithin bounds n.elements.items) (sym (longer_is g (goal.at.returns-clause-goes_up g c).After-insert-2 m (c.decode_into.ensures.only m can is).1)) within)
