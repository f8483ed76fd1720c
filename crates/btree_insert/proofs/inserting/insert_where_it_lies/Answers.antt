use Rattle.std.proofs.Common.{rules, ◌≡◌, ℕ, IsTrue, List, Option, Some, None, is_none, false, refl, ap, sym, ◌∙◌, subst, arith}
use Rattle.page_store.specs.FreeNumbers.{candidate}
use Rattle.page_store.specs.PageMap.{at, write_page}
use Rattle.page_store.specs.ChangedPage.{BecomesAt}
use Rattle.btree_node.specs.declared.page_change.PageChange.{PageChange}
use Rattle.btree_node.specs.Lists.{Element}
use Rattle.btree_insert.specs.declared.step.Spot.{Spot}
use Rattle.btree_insert.specs.declared.tree.Tree.{Tree}
use Rattle.btree_insert.specs.Growth.{Grew, in_one}
use Rattle.btree_insert.specs.Spelt.{AreSpeltIn, CanChange}
use Rattle.btree_insert.proofs.SpeltLemmas.{some_found, found_there, spelt_changed}
use Rattle.btree_insert.specs.PageTrees.{Holds, Spells, tree_below}
use Rattle.btree_insert.specs.Reached.{LeadsFrom}
use Rattle.btree_insert.specs.PagesGrown.{written_over}
use Rattle.btree_insert.proofs.RootSpotLemmas.{spot_tree, spot_leads}
use Rattle.btree_insert.proofs.InsertionLemmas.{inserted_at, next_inserted}
use Rattle.btree_insert.proofs.inserting.insert_where_it_lies.Given as given
use Rattle.btree_insert.proofs.inserting.insert_where_it_lies.Goals as goal
use Rattle.btree_insert.proofs.inserting.insert_where_it_lies.Goals.{After-change}

-- the tree with the page changed
module _ (g : given.Over) (c : After-change g) where
  grew_by : IsTrue c.args.pages.now.steady → (es : List Element) (us : List ℕ) → Holds (at c.args.pages.now.pages) c.args.tree.now es us → (old : Option (List ℕ)) → c.in-Some.placed.old ≡ old
      → Grew (tree_below c.args.tree.now.order 1 c.args.tree.now.height c.args.tree.now.root) (written_over c.args.pages.now.pages c.in-Some.placed.page c.change.ensures.pages.page) es us c.args.element.0 c.args.element.1 (in_one old)
  grew_by steady es us holds old is =
      let root = spot_tree c.root_spot.result c.args.tree.now (at c.args.pages.now.pages) es us c.root_spot.ensures (omega (arith, c.if-tree-eq0.false)) holds in
      let becomes = subst (λ (change : PageChange). BecomesAt c.args.tree.now.order c.in-Some.placed.page change c.args.pages.now.pages c.change.ensures.pages.page) c.change_of.ensures c.change.ensures.pages.changed in
      let call = c.in-Some.ensures.grew steady 1 es us root.0 root.1 holds.apart c.change.ensures.pages.page becomes in
      let from_root = subst (λ (s : Spot). Grew (tree_below c.args.tree.now.order 1 s.level s.page) (written_over c.args.pages.now.pages c.in-Some.placed.page c.change.ensures.pages.page) es us c.args.element.0 c.args.element.1 (in_one c.in-Some.placed.old)) c.root_spot.ensures call in
      subst (λ (o : Option (List ℕ)). Grew (tree_below c.args.tree.now.order 1 c.args.tree.now.height c.args.tree.now.root) (written_over c.args.pages.now.pages c.in-Some.placed.page c.change.ensures.pages.page) es us c.args.element.0 c.args.element.1 (in_one o)) is from_root

-- its pages in memory
module _ (g : given.Over) (c : After-change g) where
  still_spelt : AreSpeltIn c.args.tree.now.order c.change.new.self
  still_spelt =
      let there : is_none c.in_memory.result ≡ false = search rules in
      let here = sym c.in_memory.ensures.some ∙ some_found c.in_memory.result there in
      let can = subst (CanChange c.args.tree.now.order c.args.pages.now c.in-Some.placed.page) (sym c.change_of.ensures) c.in-Some.ensures.change in
      spelt_changed c.args.tree.now.order c.in-Some.placed.page c.change_of.result c.args.pages.now c.change.new.self here
      (found_there (λ page. page.now) c.in_memory.result c.args.pages.now c.in-Some.placed.page there c.in_memory.ensures.page) c.change.ensures.pages c.change.ensures.in_memory can c.requires.tree.1

pub returns-in-Some-old-clause-inserted : goal.returns-in-Some-old-clause-inserted
returns-in-Some-old-clause-inserted g c = λ steady es us holds.
    let pages = c.args.pages.now.pages in
    let tree = c.args.tree.now in
    let new = write_page (at pages) c.in-Some.placed.page c.change.ensures.pages.page in
    let grew = grew_by g (goal.at.returns-in-Some-old-clause-inserted g c).After-change steady es us holds (Some c.in-Some-old.old) c.in-Some-old.is in
    inserted_at (at pages) new (at c.change.new.self.pages) (candidate pages) 0 tree tree es us c.args.element.0 c.args.element.1 (Some c.in-Some-old.old) (λ q. sym (c.change.ensures.pages.pages q))
    (next_inserted (at pages) new (candidate pages) 0 0 tree.height tree.root tree tree es us c.args.element.0 c.args.element.1 (Some c.in-Some-old.old)
    refl (omega (arith, c.if-tree-eq0.false)) holds grew.grows grew.told refl refl refl (omega arith) (omega arith))

pub returns-in-None-clause-inserted : goal.returns-in-None-clause-inserted
returns-in-None-clause-inserted g c = λ steady es us holds.
    let pages = c.args.pages.now.pages in
    let tree = c.args.tree.now in
    let next = c.grown_tree-grown.result in
    let next_is = c.grown_tree-grown.ensures in
    let new = write_page (at pages) c.in-Some.placed.page c.change.ensures.pages.page in
    let grew = grew_by g (goal.at.returns-in-None-clause-inserted g c).After-change steady es us holds None c.in-None.is in
    inserted_at (at pages) new (at c.change.new.self.pages) (candidate pages) 0 tree next es us c.args.element.0 c.args.element.1 None (λ q. sym (c.change.ensures.pages.pages q))
    (next_inserted (at pages) new (candidate pages) 0 0 tree.height tree.root tree next es us c.args.element.0 c.args.element.1 None
    refl (omega (arith, c.if-tree-eq0.false)) holds grew.grows grew.told (ap (λ (t : Tree). t.order) next_is) (ap (λ (t : Tree). t.root) next_is) (ap (λ (t : Tree). t.height) next_is) (ap (λ (t : Tree). t.count) next_is) (ap (λ (t : Tree). t.used) next_is))

pub returns-in-None-clause-led : goal.returns-in-None-clause-led
returns-in-None-clause-led g c = λ steady.
    let tree = c.args.tree.now in
    subst (LeadsFrom (Spells tree.order (at c.args.pages.now.pages)) c.args.element.0 tree.height tree.root) c.in-None.is
    (spot_leads (Spells tree.order (at c.args.pages.now.pages)) c.args.element.0 c.root_spot.result tree c.in-Some.placed.old c.root_spot.ensures (omega (arith, c.if-tree-eq0.false)) (c.in-Some.ensures.led steady))

pub returns-in-Some-old-clause-spelt : goal.returns-in-Some-old-clause-spelt
returns-in-Some-old-clause-spelt g c =
    still_spelt g (goal.at.returns-in-Some-old-clause-spelt g c).After-change

pub returns-in-None-clause-spelt : goal.returns-in-None-clause-spelt
returns-in-None-clause-spelt g c =
    still_spelt g (goal.at.returns-in-None-clause-spelt g c).After-change
