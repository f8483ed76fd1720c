use Rattle.std.proofs.Common.{rules, ℕ, Option, List, ap, sym, subst}
use Rattle.std.proofs.lemmas.Result.{err_from_is_err_and}
use Rattle.page_store.specs.PagesView.{PagesView}
use Rattle.page_store.specs.PageMap.{at}
use Rattle.btree_insert.specs.declared.step.Spot.{Spot}
use Rattle.btree_insert.specs.Growth.{Grew, replaced}
use Rattle.btree_insert.specs.Inserted.{Inserted}
use Rattle.btree_insert.specs.PageTrees.{Spells, Holds, tree_below}
use Rattle.btree_insert.specs.Reached.{LeadsFrom}
use Rattle.btree_insert.specs.PagesGrown.{edited}
use Rattle.btree_insert.proofs.VisitedLemmas.{unvisited_none}
use Rattle.btree_insert.proofs.RootSpotLemmas.{spot_tree, spot_leads}
use Rattle.btree_insert.proofs.inserting.grow_below.Goals as goal

pub returns-in_err-grown : goal.returns-in_err-grown
returns-in_err-grown g c = record {
  grew = λ steady es us holds.
      let p = err_from_is_err_and c.from_residual.result c.from_residual.ensures.1 in
      let root = spot_tree c.root_spot.result c.args.tree.now (at c.args.pages.now.pages) es us c.root_spot.ensures c.requires.height holds in
      let call = c.in_err-grown.ensures.grew steady c.requires.grow.new_edit.unwritten 1 es us root.0 root.1 holds.apart (unvisited_none c.new-visited.result.items us c.new-visited.ensures) in
      rw (p.1, p.2) call;
  led = search rules;
  edit = search rules;
  few = search rules;
  next = search rules;
  reading = search rules;
}

pub returns : goal.returns
returns g c = record {
  grew = λ steady es us holds.
      let pages_is = ap (λ (v : PagesView). v.pages) c.in_ok-grown.ensures.reading.unchanged in
      let root = spot_tree c.root_spot.result c.args.tree.now (at c.args.pages.now.pages) es us c.root_spot.ensures c.requires.height holds in
      let call = c.in_ok-grown.ensures.grew steady c.requires.grow.new_edit.unwritten 1 es us root.0 root.1 holds.apart (unvisited_none c.new-visited.result.items us c.new-visited.ensures) in
      let from_root = subst (λ (s : Spot). Grew (tree_below c.args.tree.now.order 1 s.level s.page) (edited c.args.pages.now.pages c.args.edit.now.taken c.insert_below.new.edit) es us c.args.element.0 c.args.element.1 c.in_ok-grown.grown) c.root_spot.ensures call in
      let from_none = subst (λ (l : ℕ). Grew (tree_below c.args.tree.now.order 1 c.args.tree.now.height c.args.tree.now.root) (edited c.args.pages.now.pages l c.insert_below.new.edit) es us c.args.element.0 c.args.element.1 c.in_ok-grown.grown) c.requires.grow.new_edit.none_taken from_root in
      let below = subst (λ (ps : List (Option (List ℕ))). Grew (tree_below c.args.tree.now.order 1 c.args.tree.now.height c.args.tree.now.root) (edited ps 0 c.insert_below.new.edit) es us c.args.element.0 c.args.element.1 c.in_ok-grown.grown) (sym pages_is) from_none in
      let there = subst (λ (ps : List (Option (List ℕ))). Holds (at ps) c.args.tree.now es us) (sym pages_is) holds in
      let done = c.in_ok-changed_tree.ensures.grew es us c.args.element.0 c.args.element.1 there below in
      subst (λ (ps : List (Option (List ℕ))). Inserted (edited ps 0 c.changed_tree.new.edit) c.args.tree.now es us c.args.element.0 c.args.element.1 (c.in_ok-changed_tree.field-0.tree, c.in_ok-changed_tree.field-0.old)) pages_is done;
  led = λ steady.
      let tree = c.args.tree.now in
      let spells = Spells tree.order (at c.args.pages.now.pages) in
      subst (LeadsFrom spells c.args.element.0 tree.height tree.root) (sym c.in_ok-changed_tree.ensures.old)
      (spot_leads spells c.args.element.0 c.root_spot.result tree (replaced c.in_ok-grown.grown) c.root_spot.ensures c.requires.height (c.in_ok-grown.ensures.led steady));
  edit = search rules;
  few = search rules;
  next = search rules;
  reading = search rules;
}
