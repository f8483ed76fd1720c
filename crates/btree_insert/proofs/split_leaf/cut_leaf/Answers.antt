use Rattle.std.proofs.Common.{◌≡◌, ◌-◌, ◌*◌, ◌<◌, ◌≤◌, List, length, take, drop, ap, ◌∙◌, arith, length-drop}
use Rattle.std.specs.List.{insert}
use Rattle.std.proofs.lemmas.List.{length-take-le}
use Rattle.btree_node.specs.declared.node.Node.{Node}
use Rattle.btree_node.specs.Lists.{Element}
use Rattle.btree_node.specs.Spelling.{spelling, CanStand}
use Rattle.btree_node.specs.Written.{with_elements}
use Rattle.btree_node.proofs.SpeltPageLemmas.{count_spelt}
use Rattle.btree_insert.proofs.LeafCutLemmas.{CutLow, CutHigh, first_stands, last_stands, low, low_stands, high, high_stands, leaf_left, leaf_right}
use Rattle.btree_insert.proofs.split_leaf.cut_leaf.Goals as goal
use Rattle.btree_insert.proofs.split_leaf.cut_leaf.Goals.{After-drop_first}

-- the leaf that both pages spell, and its halves
module _ (c : After-drop_first) (n : Node) (can : CanStand n c.args.order) (is : c.args.left.now ≡ spelling n c.args.order) where
  full : length n.elements.items ≡ 2 * c.args.order
  full = omega (arith, count_spelt c.args.order c.args.left.now n c.requires.order.1 can is, c.requires.full)

  abbrev first : Node
  first = with_elements n (take c.args.order n.elements.items)

  abbrev last : Node
  last = with_elements n (drop c.args.order n.elements.items)

  first_can : CanStand first c.args.order
  first_can = first_stands c.args.order c.args.i n c.args.element.now c.requires.order.0 can (c.requires.leaf n can is) c.requires.element full

  first_is : c.keep_first.new.page ≡ spelling first c.args.order
  first_is = c.keep_first.ensures n can is

  last_can : CanStand last c.args.order
  last_can = last_stands c.args.order c.args.i n c.args.element.now c.requires.order.0 can (c.requires.leaf n can is) c.requires.element full

  last_is : c.drop_first.new.page ≡ spelling last c.args.order
  last_is = c.drop_first.ensures n can (c.requires.same ∙ is)

-- the first half with the element
module _ (c : After-drop_first) (is_low : c.args.i ≤ c.args.order) (n : Node) (can : CanStand n c.args.order) (is : c.args.left.now ≡ spelling n c.args.order) where
  abbrev longer : Node
  longer = with_elements n (insert (take c.args.order n.elements.items) c.args.i c.args.element.now)

  longer_can : CanStand longer c.args.order
  longer_can = low_stands c.args.order c.args.i n c.args.element.now c.requires.order.0 can (c.requires.leaf n can is) c.requires.element (full c n can is) is_low

  cut : CutLow n.elements.items c.args.i c.args.order c.args.element.now
  cut = low c.args.order c.args.i n c.args.element.now c.requires.order.0 can (c.requires.leaf n can is) c.requires.element (full c n can is) is_low

-- the last half with the element
module _ (c : After-drop_first) (is_high : c.args.order < c.args.i) (n : Node) (can : CanStand n c.args.order) (is : c.args.left.now ≡ spelling n c.args.order) where
  abbrev longer_last : Node
  longer_last = with_elements n (insert (drop c.args.order n.elements.items) (c.args.i - c.args.order) c.args.element.now)

  longer_last_can : CanStand longer_last c.args.order
  longer_last_can = high_stands c.args.order c.args.i n c.args.element.now c.requires.order.0 can (c.requires.leaf n can is) c.requires.element (full c n can is) is_high

  cut_last : CutHigh n.elements.items c.args.i c.args.order c.args.element.now
  cut_last = high c.args.order c.args.i n c.args.element.now c.requires.order.0 can (c.requires.leaf n can is) c.requires.element (full c n can is) is_high

pub insert_in-requires-clause-page : goal.insert_in-requires-clause-page
insert_in-requires-clause-page c =
    let place = (goal.at.insert_in-requires-clause-page c).After-drop_first in
    let met = c.requires.page in
    (c.requires.order.1, (first place met.0 met.1 met.2, first_can place met.0 met.1 met.2, first_is place met.0 met.1 met.2))

pub insert_in-requires-clause-index : goal.insert_in-requires-clause-index
insert_in-requires-clause-index c =
    let place = (goal.at.insert_in-requires-clause-index c).After-drop_first in
    let met = c.requires.page in
    omega (arith, c.if-i-half.true, count_spelt c.args.order c.keep_first.new.page (first place met.0 met.1 met.2) c.requires.order.1 (first_can place met.0 met.1 met.2) (first_is place met.0 met.1 met.2), length-take-le c.args.order met.0.elements.items (omega (arith, full place met.0 met.1 met.2)))

pub insert_in-requires-clause-room : goal.insert_in-requires-clause-room
insert_in-requires-clause-room c =
    let place = (goal.at.insert_in-requires-clause-room c).After-drop_first in
    let met = c.requires.page in
    omega (arith, c.requires.order.0, count_spelt c.args.order c.keep_first.new.page (first place met.0 met.1 met.2) c.requires.order.1 (first_can place met.0 met.1 met.2) (first_is place met.0 met.1 met.2), length-take-le c.args.order met.0.elements.items (omega (arith, full place met.0 met.1 met.2)))

pub take_out-requires-clause-page : goal.take_out-requires-clause-page
take_out-requires-clause-page c =
    let place = (goal.at.take_out-requires-clause-page c).After-drop_first in
    let met = c.requires.page in
    let below : c.args.i ≤ c.args.order = omega (arith, c.if-i-half.true) in
    (c.requires.order.1, (longer place below met.0 met.1 met.2, longer_can place below met.0 met.1 met.2, c.insert_in.ensures (first place met.0 met.1 met.2) (first_can place met.0 met.1 met.2) (first_is place met.0 met.1 met.2)))

pub take_out-requires-clause-index : goal.take_out-requires-clause-index
take_out-requires-clause-index c =
    let place = (goal.at.take_out-requires-clause-index c).After-drop_first in
    let met = c.requires.page in
    let below : c.args.i ≤ c.args.order = omega (arith, c.if-i-half.true) in
    let spelt = c.insert_in.ensures (first place met.0 met.1 met.2) (first_can place met.0 met.1 met.2) (first_is place met.0 met.1 met.2) in
    omega (arith, (cut place below met.0 met.1 met.2).size, count_spelt c.args.order c.insert_in.new.page (longer place below met.0 met.1 met.2) c.requires.order.1 (longer_can place below met.0 met.1 met.2) spelt)

pub returns-then-i-half-clause-middle : goal.returns-then-i-half-clause-middle
returns-then-i-half-clause-middle c = λ n other can is.
    let place = (goal.at.returns-then-i-half-clause-middle c).After-drop_first in
    let below : c.args.i ≤ c.args.order = omega (arith, c.if-i-half.true) in
    c.take_out.ensures.element (longer place below n can is) other (longer_can place below n can is) (c.insert_in.ensures (first place n can is) (first_can place n can is) (first_is place n can is)) ∙ (cut place below n can is).middle other

pub returns-then-i-half-clause-left : goal.returns-then-i-half-clause-left
returns-then-i-half-clause-left c = λ n can is.
    let k = c.args.order in
    let place = (goal.at.returns-then-i-half-clause-left c).After-drop_first in
    let below : c.args.i ≤ k = omega (arith, c.if-i-half.true) in
    let whole = insert n.elements.items c.args.i c.args.element.now in
    c.take_out.ensures.page (longer place below n can is) (longer_can place below n can is) (c.insert_in.ensures (first place n can is) (first_can place n can is) (first_is place n can is))
    ∙ ap (λ (els : List Element). spelling (with_elements n els) k) (cut place below n can is).left
    ∙ ap (λ (m : Node). spelling m k) (leaf_left k n whole can (c.requires.leaf n can is).leaf)

pub returns-then-i-half-clause-right : goal.returns-then-i-half-clause-right
returns-then-i-half-clause-right c = λ n can is.
    let k = c.args.order in
    let place = (goal.at.returns-then-i-half-clause-right c).After-drop_first in
    let below : c.args.i ≤ k = omega (arith, c.if-i-half.true) in
    let whole = insert n.elements.items c.args.i c.args.element.now in
    last_is place n can is
    ∙ ap (λ (els : List Element). spelling (with_elements n els) k) (cut place below n can is).right
    ∙ ap (λ (m : Node). spelling m k) (leaf_right k n whole can (c.requires.leaf n can is).leaf)

pub insert_in-requires-2-clause-page : goal.insert_in-requires-2-clause-page
insert_in-requires-2-clause-page c =
    let place = (goal.at.insert_in-requires-2-clause-page c).After-drop_first in
    let met = c.requires.page in
    (c.requires.order.1, (last place met.0 met.1 met.2, last_can place met.0 met.1 met.2, last_is place met.0 met.1 met.2))

pub insert_in-requires-2-clause-index : goal.insert_in-requires-2-clause-index
insert_in-requires-2-clause-index c =
    let place = (goal.at.insert_in-requires-2-clause-index c).After-drop_first in
    let met = c.requires.page in
    omega (arith, (c.requires.leaf met.0 met.1 met.2).place.within, full place met.0 met.1 met.2, count_spelt c.args.order c.drop_first.new.page (last place met.0 met.1 met.2) c.requires.order.1 (last_can place met.0 met.1 met.2) (last_is place met.0 met.1 met.2), length-drop c.args.order met.0.elements.items)

pub insert_in-requires-2-clause-room : goal.insert_in-requires-2-clause-room
insert_in-requires-2-clause-room c =
    let place = (goal.at.insert_in-requires-2-clause-room c).After-drop_first in
    let met = c.requires.page in
    omega (arith, c.requires.order.0, full place met.0 met.1 met.2, count_spelt c.args.order c.drop_first.new.page (last place met.0 met.1 met.2) c.requires.order.1 (last_can place met.0 met.1 met.2) (last_is place met.0 met.1 met.2), length-drop c.args.order met.0.elements.items)

pub take_out-requires-2-clause-page : goal.take_out-requires-2-clause-page
take_out-requires-2-clause-page c =
    let place = (goal.at.take_out-requires-2-clause-page c).After-drop_first in
    let met = c.requires.page in
    let above : c.args.order < c.args.i = omega (arith, c.if-i-half.false) in
    (c.requires.order.1, (longer_last place above met.0 met.1 met.2, longer_last_can place above met.0 met.1 met.2, c.insert_in-2.ensures (last place met.0 met.1 met.2) (last_can place met.0 met.1 met.2) (last_is place met.0 met.1 met.2)))

pub take_out-requires-2-clause-index : goal.take_out-requires-2-clause-index
take_out-requires-2-clause-index c =
    let place = (goal.at.take_out-requires-2-clause-index c).After-drop_first in
    let met = c.requires.page in
    let above : c.args.order < c.args.i = omega (arith, c.if-i-half.false) in
    let can = longer_last_can place above met.0 met.1 met.2 in
    let spelt = c.insert_in-2.ensures (last place met.0 met.1 met.2) (last_can place met.0 met.1 met.2) (last_is place met.0 met.1 met.2) in
    omega (arith, can.some, count_spelt c.args.order c.insert_in-2.new.page (longer_last place above met.0 met.1 met.2) c.requires.order.1 can spelt)

pub returns-clause-middle : goal.returns-clause-middle
returns-clause-middle c = λ n other can is.
    let place = (goal.at.returns-clause-middle c).After-drop_first in
    let above : c.args.order < c.args.i = omega (arith, c.if-i-half.false) in
    c.take_out-2.ensures.element (longer_last place above n can is) other (longer_last_can place above n can is) (c.insert_in-2.ensures (last place n can is) (last_can place n can is) (last_is place n can is)) ∙ (cut_last place above n can is).middle other

pub returns-clause-left : goal.returns-clause-left
returns-clause-left c = λ n can is.
    let k = c.args.order in
    let place = (goal.at.returns-clause-left c).After-drop_first in
    let above : k < c.args.i = omega (arith, c.if-i-half.false) in
    let whole = insert n.elements.items c.args.i c.args.element.now in
    first_is place n can is
    ∙ ap (λ (els : List Element). spelling (with_elements n els) k) (cut_last place above n can is).left
    ∙ ap (λ (m : Node). spelling m k) (leaf_left k n whole can (c.requires.leaf n can is).leaf)

pub returns-clause-right : goal.returns-clause-right
returns-clause-right c = λ n can is.
    let k = c.args.order in
    let place = (goal.at.returns-clause-right c).After-drop_first in
    let above : k < c.args.i = omega (arith, c.if-i-half.false) in
    let whole = insert n.elements.items c.args.i c.args.element.now in
    c.take_out-2.ensures.page (longer_last place above n can is) (longer_last_can place above n can is) (c.insert_in-2.ensures (last place n can is) (last_can place n can is) (last_is place n can is))
    ∙ ap (λ (els : List Element). spelling (with_elements n els) k) (cut_last place above n can is).right
    ∙ ap (λ (m : Node). spelling m k) (leaf_right k n whole can (c.requires.leaf n can is).leaf)
