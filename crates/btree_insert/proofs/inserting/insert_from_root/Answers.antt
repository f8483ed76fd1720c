use Rattle.std.proofs.Common.{rules, ◌≡◌, ℕ, Option, List, ap, sym, ◌∙◌, subst}
use Rattle.page_store.specs.FreeNumbers.{candidate}
use Rattle.page_store.specs.PagesView.{PagesView}
use Rattle.page_store.specs.PageMap.{at, pages_with}
use Rattle.btree_node.specs.Lists.{Element}
use Rattle.btree_insert.specs.Growth.{WritesFit}
use Rattle.btree_insert.specs.Inserted.{Inserted}
use Rattle.btree_insert.specs.PagesGrown.{edited}
use Rattle.btree_insert.specs.PageTrees.{Spells}
use Rattle.btree_insert.specs.Reached.{LeadsFrom}
use Rattle.btree_insert.proofs.InsertionLemmas.{inserted_at, can_stage, after_writes}
use Rattle.btree_insert.proofs.SpeltLemmas.{spelt_staged, spelt_unchanged}
use Rattle.btree_node.specs.Spelling.{AreSpelt}
use Rattle.btree_insert.proofs.inserting.insert_from_root.Goals as goal

pub stage-requires : goal.stage-requires
stage-requires g c =
    let pages_is = ap (λ (v : PagesView). v.pages) c.in_ok-changed.ensures.reading.unchanged in
    let none = ap (λ v. v.items) c.in_ok-changed.ensures.edit.freed ∙ c.new-2.ensures.items in
    can_stage c.grow_tree.new.pages.pages c.grow_tree.new.edit.writes.items c.grow_tree.new.edit.taken c.grow_tree.new.edit.freed.items none
    (subst (λ (ps : List (Option (List ℕ))). WritesFit ps c.grow_tree.new.edit.writes.items c.grow_tree.new.edit.taken) (sym pages_is) c.in_ok-changed.ensures.edit.fits) (c.is_small.ensures.0 c.if-not-is_small.false).pages

pub returns : goal.returns
returns g c = record {
  inserted = λ steady es us holds.
      let pages_is = ap (λ (v : PagesView). v.pages) c.in_ok-changed.ensures.reading.unchanged in
      let none = ap (λ v. v.items) c.in_ok-changed.ensures.edit.freed ∙ c.new-2.ensures.items in
      let done = subst (λ (e : Element). Inserted (edited c.args.pages.now.pages 0 c.grow_tree.new.edit) c.args.tree.now es us e.0 e.1 (c.in_ok-changed.changed.tree, c.in_ok-changed.changed.old))
      c.element_of.ensures.value (c.in_ok-changed.ensures.grew steady es us holds) in
      let same : (q : ℕ) → pages_with (at c.args.pages.now.pages) c.grow_tree.new.edit.writes.items q ≡ at c.stage.new.self.pages q =
      λ q. sym (c.in_ok-stage.ensures.pages q ∙ after_writes (at c.grow_tree.new.pages.pages) c.grow_tree.new.edit.writes.items c.grow_tree.new.edit.freed.items q none ∙ ap (λ (ps : List (Option (List ℕ))). pages_with (at ps) c.grow_tree.new.edit.writes.items q) pages_is) in
      (c.grow_tree.new.edit.taken, inserted_at (at c.args.pages.now.pages) (pages_with (at c.args.pages.now.pages) c.grow_tree.new.edit.writes.items) (at c.stage.new.self.pages) (candidate c.args.pages.now.pages) c.grow_tree.new.edit.taken c.args.tree.now c.in_ok-changed.changed.tree es us c.args.key c.args.value c.in_ok-changed.changed.old same done);
  led = λ steady.
      let tree = c.args.tree.now in
      subst (λ (e : Element). LeadsFrom (Spells tree.order (at c.args.pages.now.pages)) e.0 tree.height tree.root c.in_ok-changed.changed.old) c.element_of.ensures.value (c.in_ok-changed.ensures.led steady);
  small = search rules;
  page_count = search rules;
  changed = search rules;
  order = search rules;
  spelt = λ spelt.
      let order = c.args.tree.now.order in
      let none_yet = subst (AreSpelt order) (sym c.new.ensures.items) tt in
      spelt_staged order c.grow_tree.new.pages c.stage.new.self c.grow_tree.new.edit.writes.items c.grow_tree.new.edit.freed.items c.in_ok-stage.ensures.pages c.in_ok-stage.ensures.in_memory
      (c.in_ok-changed.ensures.edit.spelt none_yet) (spelt_unchanged order c.args.pages.now c.grow_tree.new.pages c.in_ok-changed.ensures.reading.unchanged spelt);
  stages = search rules;
}
