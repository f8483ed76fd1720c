use Rattle.std.proofs.Common.{rules, ◌≡◌, ◌-◌, IsTrue, ℕ, List, Option, Some, length, refl, ap, sym, subst, arith, None, is_some}
use Rattle.std.proofs.lemmas.Result.{err_from_is_err_and}
use Rattle.page_store.specs.CanStage.{CanStage}
use Rattle.page_store.specs.PageMap.{at, after}
use Rattle.page_store.specs.PagesView.{PagesView}
use Rattle.btree_node.specs.Lists.{Element}
use Rattle.btree_node.specs.Spelling.{AreSpelt}
use Rattle.btree_insert.specs.PageTrees.{Holds, Spells}
use Rattle.btree_insert.specs.Reached.{Leads, LeadsFrom}
use Rattle.btree_insert.proofs.BoundLemmas.{Between-all}
use Rattle.btree_insert.proofs.ReachLemmas.{leads_from, leads_from_none}
use Rattle.btree_insert.proofs.VisitedLemmas.{unvisited_none}
use Rattle.btree_insert.proofs.SpeltLemmas.{spelt_staged, spelt_unchanged}
use Rattle.btree_insert.proofs.HeadNodeLemmas.{root_tree}
use Rattle.btree_delete.specs.declared.deletion.subtree.Subtree.{Subtree}
use Rattle.btree_insert.specs.Bounds.{unbounded}
use Rattle.btree_insert.specs.Contents.{lookup_in, set_in}
use Rattle.btree_delete.specs.Deleted.{MayStop}
use Rattle.btree_delete.specs.Shrinking.{LeavesTree, RemovesBelow, record_gone, Removal, removal, removal_if}
use Rattle.btree_delete.specs.Subtrees.{head_page, head_of}
use Rattle.btree_delete.specs.PagesLeft.{pages_freed, with_edit}
use Rattle.btree_delete.specs.Tidy.{visits}
use Rattle.btree_delete.proofs.DeletionLemmas.{outside_stops}
use Rattle.btree_delete.proofs.SonCallLemmas.{Removing}
use Rattle.btree_delete.proofs.RootLemmas.{deleted_at, deleted_none}
use Rattle.btree_delete.proofs.FirstElementLemmas.{went_up}
use Rattle.btree_delete.proofs.deletion.deleting.delete.Given as given
use Rattle.btree_delete.proofs.deletion.deleting.delete.Goals as goal
use Rattle.btree_delete.proofs.deletion.deleting.delete.Goals.{After-delete_below}

-- the deletion below the root, of a table that the pages hold
module _ (g : given.Over) (c : After-delete_below g) where
  abbrev whole : Subtree
  whole = record { order = c.args.tree.now.order; height = c.args.tree.now.height; page = c.args.tree.now.root; bounds = unbounded }

  module _ (steady : IsTrue c.args.pages.now.steady) (es : List Element) (us : List ℕ) (holds : Holds (at c.args.pages.now.pages) c.args.tree.now es us) where
    asked : (X : ℕ → List Element → List ℕ → Type 0) → Removing whole c.args.pages.now c.new-visited.result.items X → X 1 es us
    asked X removing =
        let T = c.args.tree.now in
        removing steady 1 es us c.requires.tree.order.0 (root_tree T.order (at c.args.pages.now.pages) T.height T.root es us (omega arith) holds.tree) (Between-all es holds.ascends) holds.apart (unvisited_none c.new-visited.result.items us c.new-visited.ensures)

    abbrev Removed : ℕ → List Element → List ℕ → Option Removal → Type 0
    Removed least xs vs r = RemovesBelow (head_of whole least) (with_edit (at c.args.pages.now.pages) c.delete_below.new.edit) xs vs (visits c.new-visited.result.items c.delete_below.new.visited.items) c.args.key.now r

    removed : (r r2 : Option Removal) → r ≡ r2 → Removing whole c.args.pages.now c.new-visited.result.items (λ least xs vs. Removed least xs vs r) → Removed 1 es us r2
    removed r r2 is removing = subst (Removed 1 es us) is (asked (λ least xs vs. Removed least xs vs r) removing)

pub returns-in_err-shrunk : goal.returns-in_err-shrunk
returns-in_err-shrunk g c = record {
  deleted = λ steady es us holds.
      let p = err_from_is_err_and c.from_residual.result c.from_residual.ensures.1 in
      rw (p.1, p.2) (asked g (goal.at.returns-in_err-shrunk g c).After-delete_below steady es us holds (λ _ xs _. MayStop (lookup_in c.args.key.now xs) c.in_err-shrunk.field-0.0) c.in_err-shrunk.ensures.removes);
  led = search rules;
  smaller = search rules;
  spelt = search rules;
  absent = search rules;
  changed = search rules;
  page_count = search rules;
  stages = search rules;
}

pub shrink_tree-requires-clause-up : goal.shrink_tree-requires-clause-up
shrink_tree-requires-clause-up g c =
    let sub = whole g (goal.at.shrink_tree-requires-clause-up g c).After-delete_below in
    (went_up sub sub (Some c.args.key.now) c.delete_below.new.edit.writes.items c.delete_below.new.edit.freed.items (removal_if c.delete_below.new.node c.in_ok-shrunk.shrunk) (removal c.delete_below.new.node c.in-Some.shrunk) refl (ap (removal_if c.delete_below.new.node) c.in-Some.is) c.in_ok-shrunk.ensures.up).goes

pub stage-requires : goal.stage-requires
stage-requires g c =
    let pages_is = ap (λ (v : PagesView). v.pages) c.delete_below.ensures.reading.unchanged in
    let can = c.in_ok-shrunk-2.ensures.fits c.args.pages.now.pages c.delete_below.new.visited.items c.in_ok-shrunk.ensures.visits.in_use c.in_ok-shrunk.ensures.visits.visit.here c.in_ok-shrunk.ensures.visits.tidy in
    subst (λ (ps : List (Option (List ℕ))). CanStage ps c.shrink_tree.new.edit.writes.items c.shrink_tree.new.edit.taken c.shrink_tree.new.edit.freed.items) (sym pages_is) can

pub returns-in_err-shrunk-2 : goal.returns-in_err-shrunk-2
returns-in_err-shrunk-2 g c = record {
  deleted = λ steady es us holds.
      let p = err_from_is_err_and c.from_residual-in_err-shrunk-2.result c.from_residual-in_err-shrunk-2.ensures.1 in
      let some = removed g (goal.at.returns-in_err-shrunk-2 g c).After-delete_below steady es us holds (removal_if c.delete_below.new.node c.in_ok-shrunk.shrunk) (Some (removal c.delete_below.new.node c.in-Some.shrunk)) (ap (removal_if c.delete_below.new.node) c.in-Some.is) c.in_ok-shrunk.ensures.removes in
      rw (p.1, p.2) (outside_stops (lookup_in c.args.key.now es) c.in_err-shrunk-2.field-0.0 (ap is_some some.drops.1) (c.in_err-shrunk-2.ensures.deleted (at c.args.pages.now.pages) es us c.args.key.now holds some.drops.1 some.drops.2));
  led = search rules;
  smaller = search rules;
  spelt = search rules;
  absent = search rules;
  changed = search rules;
  page_count = search rules;
  stages = search rules;
}

pub returns-in_err-stage : goal.returns-in_err-stage
returns-in_err-stage g c = record {
  deleted = λ steady es us holds.
      let p = err_from_is_err_and c.from_residual-in_err-stage.result c.from_residual-in_err-stage.ensures.1 in
      let some = removed g (goal.at.returns-in_err-stage g c).After-delete_below steady es us holds (removal_if c.delete_below.new.node c.in_ok-shrunk.shrunk) (Some (removal c.delete_below.new.node c.in-Some.shrunk)) (ap (removal_if c.delete_below.new.node) c.in-Some.is) c.in_ok-shrunk.ensures.removes in
      rw (p.1, p.2) (ap is_some some.drops.1);
  led = search rules;
  smaller = search rules;
  spelt = search rules;
  absent = search rules;
  changed = search rules;
  page_count = search rules;
  stages = search rules;
}

pub returns-then-tree-eq0 : goal.returns-then-tree-eq0
returns-then-tree-eq0 g c = record {
  deleted = search rules;
  led = λ steady.
      leads_from_none (Spells c.args.tree.now.order (at c.args.pages.now.pages)) c.args.key.now c.args.tree.now.height c.args.tree.now.root c.if-tree-eq0.true;
  smaller = search rules;
  spelt = search rules;
  absent = search rules;
  changed = search rules;
  page_count = search rules;
  stages = search rules;
}

-- the key leads from the root to what went below it
module _ (g : given.Over) (c : After-delete_below g) where
  led_from : (r r2 : Option Removal) → r ≡ r2 → IsTrue c.args.pages.now.steady
      → (IsTrue c.args.pages.now.steady → (k : List ℕ) → Some c.args.key.now ≡ Some k → Leads (Spells c.args.tree.now.order (at c.args.pages.now.pages)) k c.args.tree.now.height c.args.tree.now.root unbounded (record_gone r))
      → LeadsFrom (Spells c.args.tree.now.order (at c.args.pages.now.pages)) c.args.key.now c.args.tree.now.height c.args.tree.now.root (record_gone r2)
  led_from r r2 is steady led =
      let T = c.args.tree.now in
      let spells = Spells T.order (at c.args.pages.now.pages) in
      leads_from spells c.args.key.now T.height (T.height - 1) T.root (record_gone r2) (omega (arith, c.if-tree-eq0.false))
      (subst (λ (o : Option Removal). Leads spells c.args.key.now T.height T.root unbounded (record_gone o)) is (led steady c.args.key.now refl))

pub returns-in_default : goal.returns-in_default
returns-in_default g c = record {
  deleted = λ steady es us holds.
      let none = removed g (goal.at.returns-in_default g c).After-delete_below steady es us holds (removal_if c.delete_below.new.node c.in_ok-shrunk.shrunk) None (ap (removal_if c.delete_below.new.node) c.in_default.is) c.in_ok-shrunk.ensures.removes in
      deleted_none (at c.args.pages.now.pages) (at c.delete_below.new.pages.pages) c.args.tree.now es us c.args.key.now (ap (λ (v : PagesView). at v.pages) c.delete_below.ensures.reading.unchanged) holds none.drops;
  led = λ steady.
      led_from g (goal.at.returns-in_default g c).After-delete_below (removal_if c.delete_below.new.node c.in_ok-shrunk.shrunk) None (ap (removal_if c.delete_below.new.node) c.in_default.is) steady c.in_ok-shrunk.ensures.led;
  smaller = search rules;
  spelt = search rules;
  absent = search rules;
  changed = search rules;
  page_count = search rules;
  stages = search rules;
}

pub returns : goal.returns
returns g c = record {
  deleted = λ steady es us holds.
      let T = c.args.tree.now in
      let P = at c.args.pages.now.pages in
      let ws = c.delete_below.new.edit.writes.items in
      let fs = c.delete_below.new.edit.freed.items in
      let pages_is = ap (λ (v : PagesView). v.pages) c.delete_below.ensures.reading.unchanged in
      let some = removed g (goal.at.returns g c).After-delete_below steady es us holds (removal_if c.delete_below.new.node c.in_ok-shrunk.shrunk) (Some (removal c.delete_below.new.node c.in-Some.shrunk)) (ap (removal_if c.delete_below.new.node) c.in-Some.is) c.in_ok-shrunk.ensures.removes in
      let there = subst (λ (ps : List (Option (List ℕ))). Holds (at ps) T es us) (sym pages_is) holds in
      let leaves = subst (λ (ps : List (Option (List ℕ))). LeavesTree (head_page T.order 1 (T.height - 1) T.root) (pages_freed (at ps) (after (at ps) ws fs) 0 (length fs)) us (set_in c.args.key.now None es) (removal c.delete_below.new.node c.in-Some.shrunk)) (sym pages_is) some.drops.2 in
      let done = c.in_ok-shrunk-2.ensures.deleted (at c.delete_below.new.pages.pages) es us c.args.key.now there some.drops.1 leaves in
      deleted_at P (at c.delete_below.new.pages.pages) (after (at c.delete_below.new.pages.pages) c.shrink_tree.new.edit.writes.items c.shrink_tree.new.edit.freed.items) (at c.stage.new.self.pages) T c.in_ok-shrunk-2.shrunk.0 es us c.args.key.now c.in_ok-shrunk-2.shrunk.1 (ap (λ (v : PagesView). at v.pages) c.delete_below.ensures.reading.unchanged) c.in_ok-stage.ensures.pages done;
  led = λ steady.
      let T = c.args.tree.now in
      subst (LeadsFrom (Spells T.order (at c.args.pages.now.pages)) c.args.key.now T.height T.root) (sym c.in_ok-shrunk-2.ensures.answer)
      (led_from g (goal.at.returns g c).After-delete_below (removal_if c.delete_below.new.node c.in_ok-shrunk.shrunk) (Some (removal c.delete_below.new.node c.in-Some.shrunk)) (ap (removal_if c.delete_below.new.node) c.in-Some.is) steady c.in_ok-shrunk.ensures.led);
  smaller = search rules;
  spelt = λ spelt.
      let k = c.args.tree.now.order in
      let edit = c.shrink_tree.new.edit in
      let none_yet = subst (AreSpelt k) (sym c.new.ensures.items) tt in
      let before = spelt_unchanged k c.args.pages.now c.delete_below.new.pages c.delete_below.ensures.reading.unchanged spelt in
      spelt_staged k c.delete_below.new.pages c.stage.new.self edit.writes.items edit.freed.items c.in_ok-stage.ensures.pages c.in_ok-stage.ensures.in_memory (c.in_ok-shrunk-2.ensures.edit.spelt (c.in_ok-shrunk.ensures.edit.spelt none_yet)) before;
  absent = search rules;
  changed = search rules;
  page_count = search rules;
  stages = search rules;
}
