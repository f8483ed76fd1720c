use Rattle.std.proofs.Common.{rules, ◌≡◌, ◌-◌, ◌<◌, ℕ, IsTrue, List, [], ◌∷◌, None, Some, is_none, false, refl, sym, ◌∙◌, subst, arith}
use Rattle.page_store.specs.PageMap.{at, write_page}
use Rattle.btree_node.specs.declared.page_change.PageChange.TheVariants.{Remove}
use Rattle.btree_node.specs.Lists.{Element}
use Rattle.btree_insert.specs.declared.step.Spot.{Spot}
use Rattle.btree_insert.specs.Contents.{set_in}
use Rattle.btree_insert.specs.PageTrees.{Holds, Spells}
use Rattle.btree_insert.proofs.RootSpotLemmas.{spot_tree, spot_leads}
use Rattle.btree_insert.proofs.SpeltLemmas.{some_found, found_there, spelt_changed}
use Rattle.btree_delete.specs.Shrinking.{Drops, Whole}
use Rattle.btree_delete.specs.Subtrees.{head_page}
use Rattle.btree_delete.specs.PagesLeft.{with_page}
use Rattle.btree_delete.proofs.RootLemmas.{Shrank, shrank_whole, shrank_deleted, deleted_at}
use Rattle.btree_delete.proofs.deletion.deleting.delete_where_it_lies.Given as given
use Rattle.btree_delete.proofs.deletion.deleting.delete_where_it_lies.Goals as goal
use Rattle.btree_delete.proofs.deletion.deleting.delete_where_it_lies.Goals.{After-change}

-- what was taken out of a tree that the pages hold
module _ (g : given.Over) (c : After-change g) (steady : IsTrue c.args.pages.now.steady) (es : List Element) (us : List ℕ) (holds : Holds (at c.args.pages.now.pages) c.args.tree.now es us) where
  dropped : Drops (head_page c.args.tree.now.order 1 (c.args.tree.now.height - 1) c.args.tree.now.root) (with_page (at c.args.pages.now.pages) c.in-Some.taken.page c.change.ensures.pages.page) es us c.args.key.now (Some (Whole (c.args.key.now, c.in-Some.taken.old)))
  dropped =
      let T = c.args.tree.now in
      let P = at c.args.pages.now.pages in
      let height : 0 < T.height = omega (arith, c.if-tree-eq0.false) in
      let root = spot_tree c.root_spot.result T P es us c.root_spot.ensures height holds in
      let call = c.in-Some.ensures.drops steady 1 es us c.requires.tree.order.0 root.0 root.1 holds.apart c.change.ensures.pages.page c.change.ensures.pages.changed in
      subst (λ (s : Spot). Drops (head_page T.order 1 (s.level - 1) s.page) (with_page P c.in-Some.taken.page c.change.ensures.pages.page) es us c.args.key.now (Some (Whole (c.args.key.now, c.in-Some.taken.old)))) c.root_spot.ensures call

  shrank : Shrank (at c.args.pages.now.pages) (write_page (at c.args.pages.now.pages) c.in-Some.taken.page c.change.ensures.pages.page) c.args.tree.now c.args.tree.now 0 (set_in c.args.key.now None es) us
  shrank =
      shrank_whole (at c.args.pages.now.pages) c.args.tree.now ((c.in-Some.taken.page, c.change.ensures.pages.page) ∷ []) [] us (set_in c.args.key.now None es) (c.args.key.now, c.in-Some.taken.old) (omega (arith, c.if-tree-eq0.false)) dropped.2

pub returns-clause-deleted : goal.returns-clause-deleted
returns-clause-deleted g c = λ steady es us holds.
    let place = (goal.at.returns-clause-deleted g c).After-change in
    let T = c.args.tree.now in
    let P = at c.args.pages.now.pages in
    let mid = write_page P c.in-Some.taken.page c.change.ensures.pages.page in
    deleted_at P P mid (at c.change.new.self.pages) T _ es us c.args.key.now _ refl c.change.ensures.pages.pages
    (shrank_deleted P mid T T c.in-Ok.next es us c.args.key.now c.in-Some.taken.old 0 holds (dropped g place steady es us holds).1 (shrank g place steady es us holds)
    c.in-Ok.ensures.enough.0 c.in-Ok.ensures.enough.1 c.in-Ok.ensures.value)

pub returns-clause-led : goal.returns-clause-led
returns-clause-led g c = λ steady.
    let T = c.args.tree.now in
    spot_leads (Spells T.order (at c.args.pages.now.pages)) c.args.key.now c.root_spot.result T (Some c.in-Some.taken.old) c.root_spot.ensures (omega (arith, c.if-tree-eq0.false)) (c.in-Some.ensures.led steady)

pub returns-clause-spelt : goal.returns-clause-spelt
returns-clause-spelt g c =
    let there : is_none c.in_memory.result ≡ false = search rules in
    spelt_changed c.args.tree.now.order c.in-Some.taken.page (Remove c.in-Some.taken.place) c.args.pages.now c.change.new.self (sym c.in_memory.ensures.some ∙ some_found c.in_memory.result there)
    (found_there (λ page. page.now) c.in_memory.result c.args.pages.now c.in-Some.taken.page there c.in_memory.ensures.page) c.change.ensures.pages c.change.ensures.in_memory c.in-Some.ensures.change c.requires.spelt
