use Rattle.std.proofs.Common.{◌≡◌, ◌+◌, ◌*◌, ◌∷◌, ◌++◌, [], ℕ, List, ap, ◌∙◌, arith, refl, length}
use Rattle.std.proofs.lemmas.List.Edits.{length-insert}
use Rattle.btree_node.specs.Cut.{left_of, right_of}
use Rattle.btree_node.proofs.SpeltPageLemmas.{count_spelt}
use Rattle.btree_insert.proofs.ChangedTreeLemmas.{left_half, right_half}
use Rattle.btree_insert.proofs.SpeltLemmas.{spelt_more}
use Rattle.std.specs.List.{insert}
use Rattle.btree_node.specs.declared.node.Node.{Node}
use Rattle.btree_node.specs.Spelling.{spelling}
use Rattle.btree_node.specs.Written.{with_elements}
use Rattle.btree_insert.proofs.EditFitLemmas.{wrote_fits, took_fits, up_fits}
use Rattle.btree_insert.proofs.OnePageLemmas.{same_parts}
use Rattle.btree_insert.proofs.PlaceLemmas.{leaf_may_be_overfull}
use Rattle.btree_insert.proofs.insert_below.put_in_leaf.Goals as goal

pub write_inserted-requires-clause-leaf : goal.write_inserted-requires-clause-leaf
write_inserted-requires-clause-leaf g c = λ m can is.
    let gains = c.requires.leaf m can is in
    (gains.leaf, gains.place, omega (arith, c.if-count_in-order.true, c.count_in.ensures.node c.args.order m c.requires.order.1 can is))

pub returns-then-count_in-order-clause-settles : goal.returns-then-count_in-order-clause-settles
returns-then-count_in-order-clause-settles g c = λ m can is.
    let wrote = c.in_ok-write_inserted.ensures.writes m can is in
    let longer = with_elements m (insert m.elements.items c.args.i c.args.element) in (
      omega (arith, wrote.stands.most, ap length wrote.elements),
      wrote.written ∙ ap (λ (bytes : List ℕ). c.args.edit.now.writes.items ++ (c.args.n, bytes) ∷ []) (ap (λ (n : Node). spelling n c.args.order) (same_parts wrote.node longer wrote.kind wrote.elements wrote.sons)),
      c.in_ok-write_inserted.ensures.edit.taken,
    )

pub returns-then-count_in-order-clause-edit : goal.returns-then-count_in-order-clause-edit
returns-then-count_in-order-clause-edit g c =
    let spelt = c.requires.page in
    let wrote = c.in_ok-write_inserted.ensures.writes spelt.0 spelt.1 spelt.2 in
    record {
      fits = wrote_fits c.args.pages.now.pages c.args.edit.now.writes.items c.write_inserted.new.edit.writes.items c.args.edit.now.taken c.write_inserted.new.edit.taken c.args.n (spelling wrote.node c.args.order)
          wrote.written c.in_ok-write_inserted.ensures.edit.taken c.requires.room.in_use c.requires.room.fits;
      spelt = c.in_ok-write_inserted.ensures.edit.spelt;
      freed = c.in_ok-write_inserted.ensures.edit.freed;
    }

pub write_halves-requires-clause-full : goal.write_halves-requires-clause-full
write_halves-requires-clause-full g c =
    let spelt = c.requires.page in
    omega (arith, count_spelt c.args.order c.args.page.now spelt.0 c.requires.order.1 spelt.1 spelt.2, c.count_in.ensures.node c.args.order spelt.0 c.requires.order.1 spelt.1 spelt.2, c.if-count_in-order.false, spelt.1.most)

pub returns-clause-settles : goal.returns-clause-settles
returns-clause-settles g c = λ m can is.
    let node = with_elements m (insert m.elements.items c.args.i c.args.element) in
    let halves = c.in_ok-middle.ensures.cut m can is in
    let gains = c.requires.leaf m can is in (
      omega (arith, length-insert m.elements.items c.args.i c.args.element gains.place.within, c.count_in.ensures.node c.args.order m c.requires.order.1 can is, c.if-count_in-order.false, can.most),
      halves.middle_is,
      c.candidate-number.ensures.value,
      halves.written ∙ ap (λ (fresh : ℕ). (c.args.edit.now.writes.items ++ (c.args.n, spelling (left_of c.args.order node) c.args.order) ∷ []) ++ (fresh, spelling (right_of c.args.order node) c.args.order) ∷ []) c.candidate-number.ensures.value,
      ap (λ t. t + 1) c.in_ok-middle.ensures.taken,
    )

pub returns-clause-edit : goal.returns-clause-edit
returns-clause-edit g c =
    let spelt = c.requires.page in
    let m = spelt.0 in
    let k = c.args.order in
    let node = with_elements m (insert m.elements.items c.args.i c.args.element) in
    let gains = c.requires.leaf m spelt.1 spelt.2 in
    let over = leaf_may_be_overfull k m node c.args.i c.args.element spelt.1 gains.leaf gains.place c.requires.element refl refl refl in
    let long : length node.elements.items ≡ 2 * k + 1 = omega (arith, length-insert m.elements.items c.args.i c.args.element gains.place.within, c.count_in.ensures.node k m c.requires.order.1 spelt.1 spelt.2, c.if-count_in-order.false, spelt.1.most) in
    let halves = c.in_ok-middle.ensures.cut m spelt.1 spelt.2 in
    let mid = c.args.edit.now.writes.items ++ (c.args.n, spelling (left_of k node) k) ∷ [] in
    let first = wrote_fits c.args.pages.now.pages c.args.edit.now.writes.items mid c.args.edit.now.taken c.args.edit.now.taken c.args.n (spelling (left_of k node) k) refl refl c.requires.room.in_use c.requires.room.fits in
    record {
      fits = took_fits c.args.pages.now.pages mid _ c.args.edit.now.taken _ c.candidate-number.result (spelling (right_of k node) k) halves.written (ap (λ t. t + 1) c.in_ok-middle.ensures.taken) c.candidate-number.ensures.value first;
      spelt = λ old. spelt_more k c.candidate-number.result mid _ (right_of k node) (right_half k node c.requires.order.0 long over) halves.written
          (spelt_more k c.args.n c.args.edit.now.writes.items mid (left_of k node) (left_half k node c.requires.order.0 long over) refl old);
      freed = c.in_ok-middle.ensures.freed;
    }

pub returns-clause-goes_up : goal.returns-clause-goes_up
returns-clause-goes_up g c = λ m can is bounds within.
    let k = c.args.order in
    let node = with_elements m (insert m.elements.items c.args.i c.args.element) in
    let gains = c.requires.leaf m can is in
    let over = leaf_may_be_overfull k m node c.args.i c.args.element can gains.leaf gains.place c.requires.element refl refl refl in
    let long : length node.elements.items ≡ 2 * k + 1 = omega (arith, length-insert m.elements.items c.args.i c.args.element gains.place.within, c.count_in.ensures.node k m c.requires.order.1 can is, c.if-count_in-order.false, can.most) in
    let some = c.candidate-number.ensures.some in
    up_fits bounds k node c.in_ok-middle.middle k c.candidate-number.result over within (omega (arith, long)) ((c.in_ok-middle.ensures.cut m can is).middle_is c.in_ok-middle.middle) (omega (arith, some)) c.candidate-number.type_inv
