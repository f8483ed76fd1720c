use Rattle.std.proofs.Common.{◌≡◌, ℕ, List, set, length, refl, ap, ◌∙◌, arith}
use Rattle.btree_node.specs.declared.node.Node.{Node}
use Rattle.btree_node.specs.Spelling.{spelling}
use Rattle.btree_node.specs.Written.{with_elements}
use Rattle.btree_node.proofs.SpeltPageLemmas.{count_spelt}
use Rattle.btree_insert.proofs.OnePageLemmas.{last_write, last_rewritten}
use Rattle.btree_insert.proofs.PlaceLemmas.{set_stands}
use Rattle.btree_insert.proofs.SpeltLemmas.{spelt_more}
use Rattle.btree_insert.proofs.insert_in_one.write_replaced.Goals as goal
use Rattle.btree_insert.proofs.insert_in_one.write_replaced.Goals.{After-element-1}

-- the page that was added to the edit
module _ (c : After-element-1) where
  stands_at : c.len-at.result ≡ length c.args.edit.now.writes.items
  stands_at = c.len-at.ensures ∙ c.args.edit.now.writes.ok.0

  added : c.index_mut.result.now ≡ (c.args.n, c.args.page.now)
  added = last_write c.args.edit.now.writes.items c.write_page.new.edit.writes.items (c.args.n, c.args.page.now) c.index_mut.result.now c.len-at.result c.in_ok-write_page.ensures.writes stands_at c.index_mut.ensures.value

  bytes : c.index_mut.result.now.1 ≡ c.args.page.now
  bytes = ap (λ (w : ℕ × List ℕ). w.1) added

pub replace_in-requires-clause-index : goal.replace_in-requires-clause-index
replace_in-requires-clause-index c =
    let n = c.requires.page.1.0 in
    let can = c.requires.page.1.1 in
    let is = c.requires.page.1.2 in
    let found = c.requires.found n can is in
    omega (arith, count_spelt c.args.order c.index_mut.result.now.1 n c.requires.page.0 can (bytes (goal.at.replace_in-requires-clause-index c).After-element-1 ∙ is), found.within)

pub returns-clause-writes : goal.returns-clause-writes
returns-clause-writes c = λ n can is.
    let place = (goal.at.returns-clause-writes c).After-element-1 in
    let m : Node = with_elements n (set n.elements.items c.args.i c.args.element) in
    record {
      node = m;
      stands = set_stands c.args.order n m c.args.i c.args.element can (c.requires.found n can is) c.requires.element refl refl refl;
      kind = refl;
      elements = refl;
      sons = refl;
      written = last_rewritten c.args.edit.now.writes.items c.write_page.new.edit.writes.items (c.args.n, c.args.page.now) c.index_mut.result.now c.replace_in.new.page (spelling m c.args.order) c.len-at.result c.in_ok-write_page.ensures.writes (stands_at place) (added place) (c.replace_in.ensures n can (bytes place ∙ is));
    }

pub returns-clause-edit : goal.returns-clause-edit
returns-clause-edit c =
    let n = c.requires.page.1.0 in
    let can = c.requires.page.1.1 in
    let is = c.requires.page.1.2 in
    let changed = returns-clause-writes c n can is in record {
      spelt = spelt_more c.args.order c.args.n c.args.edit.now.writes.items _ changed.node changed.stands changed.written;
      taken = c.in_ok-write_page.ensures.edit.taken;
      freed = c.in_ok-write_page.ensures.edit.freed;
    }
