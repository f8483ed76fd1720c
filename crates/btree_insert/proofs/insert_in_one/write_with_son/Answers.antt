use Rattle.std.proofs.Common.{◌≡◌, ℕ, List, length, ap, ◌∙◌, arith}
use Rattle.btree_node.specs.Spelling.{spelling}
use Rattle.btree_node.proofs.SpeltPageLemmas.{count_spelt}
use Rattle.btree_insert.specs.Growth.{with_son}
use Rattle.btree_insert.proofs.OnePageLemmas.{inner_stands, last_write, last_rewritten}
use Rattle.btree_insert.proofs.SpeltLemmas.{spelt_more}
use Rattle.btree_insert.proofs.insert_in_one.write_with_son.Goals as goal
use Rattle.btree_insert.proofs.insert_in_one.write_with_son.Goals.{After-element-1}

-- the page that was added to the edit
module _ (c : After-element-1) where
  stands_at : c.len-at.result ≡ length c.args.edit.now.writes.items
  stands_at = c.len-at.ensures ∙ c.args.edit.now.writes.ok.0

  added : c.index_mut.result.now ≡ (c.args.n, c.args.page.now)
  added = last_write c.args.edit.now.writes.items c.write_page.new.edit.writes.items (c.args.n, c.args.page.now) c.index_mut.result.now c.len-at.result c.in_ok-write_page.ensures.writes stands_at c.index_mut.ensures.value

  bytes : c.index_mut.result.now.1 ≡ c.args.page.now
  bytes = ap (λ (w : ℕ × List ℕ). w.1) added

pub insert_son_in-requires-clause-index : goal.insert_son_in-requires-clause-index
insert_son_in-requires-clause-index c =
    let n = c.requires.page.1.0 in
    let can = c.requires.page.1.1 in
    let is = c.requires.page.1.2 in
    let place = (c.requires.father n can is).0.place in
    omega (arith, count_spelt c.args.order c.index_mut.result.now.1 n c.requires.page.0 can (bytes (goal.at.insert_son_in-requires-clause-index c).After-element-1 ∙ is), place.within)

pub insert_son_in-requires-clause-room : goal.insert_son_in-requires-clause-room
insert_son_in-requires-clause-room c =
    let n = c.requires.page.1.0 in
    let can = c.requires.page.1.1 in
    let is = c.requires.page.1.2 in
    let room = (c.requires.father n can is).1 in
    omega (arith, count_spelt c.args.order c.index_mut.result.now.1 n c.requires.page.0 can (bytes (goal.at.insert_son_in-requires-clause-room c).After-element-1 ∙ is), room)

pub returns-clause-writes : goal.returns-clause-writes
returns-clause-writes c = λ n can is.
    let place = (goal.at.returns-clause-writes c).After-element-1 in
    let gains = (c.requires.father n can is).0 in
    last_rewritten c.args.edit.now.writes.items c.write_page.new.edit.writes.items (c.args.n, c.args.page.now) c.index_mut.result.now c.insert_son_in.new.page (spelling (with_son n c.args.i c.args.element c.args.son) c.args.order) c.len-at.result c.in_ok-write_page.ensures.writes (stands_at place) (added place) (c.insert_son_in.ensures n can gains.inner (bytes place ∙ is))

pub returns-clause-edit : goal.returns-clause-edit
returns-clause-edit c =
    let n = c.requires.page.1.0 in
    let can = c.requires.page.1.1 in
    let is = c.requires.page.1.2 in
    let father = c.requires.father n can is in record {
      spelt = spelt_more c.args.order c.args.n c.args.edit.now.writes.items _ (with_son n c.args.i c.args.element c.args.son) (inner_stands c.args.order n c.args.i c.args.son c.args.element can father.0 father.1 c.requires.element) (returns-clause-writes c n can is);
      taken = c.in_ok-write_page.ensures.edit.taken;
      freed = c.in_ok-write_page.ensures.edit.freed;
    }
