use Rattle.std.proofs.Common.{◌≡◌, ℕ, suc, ◌+◌, Some, None, [], ◌∷◌, ◌++◌, refl, ap, ◌∙◌, subst, arith}
use Rattle.page_store.specs.FreeNumbers.{candidate}
use Rattle.page_store.specs.PageMap.{at, pages_with}
use Rattle.btree_node.specs.declared.node.Node.{Node}
use Rattle.btree_node.specs.Spelling.{spelling, IsSon}
use Rattle.btree_insert.specs.declared.insert_below.Grown.{Grown}
use Rattle.btree_insert.specs.declared.tree.Tree.{Tree}
use Rattle.btree_insert.specs.Contents.{set_in}
use Rattle.btree_insert.specs.Growth.{Grew, SplitGoesUp, TakesNumbers, Whole}
use Rattle.btree_insert.specs.PageTrees.{tree_below}
use Rattle.btree_insert.specs.PagesGrown.{edited, taking}
use Rattle.btree_insert.proofs.ChangedTreeLemmas.{in_use}
use Rattle.btree_insert.proofs.InsertionLemmas.{next_inserted, root_up, root_stands}
use Rattle.btree_insert.proofs.VisitedLemmas.{candidates_free}
use Rattle.btree_insert.proofs.HeadNodeLemmas.{root_tree}
use Rattle.btree_insert.proofs.inserting.changed_tree.Goals as goal

pub returns-in-Replaced-clause-grew : goal.returns-in-Replaced-clause-grew
returns-in-Replaced-clause-grew g c = λ es us key value holds below.
    let grew = subst (λ (r : Grown). Grew (tree_below c.args.tree.now.order 1 c.args.tree.now.height c.args.tree.now.root) (edited c.args.pages.now.pages 0 c.args.edit.now) es us key value r) c.in-Replaced.is below in
    let takes = subst (TakesNumbers c.args.tree.now.height 0 c.args.edit.now.taken) c.in-Replaced.is c.requires.takes in
    next_inserted (at c.args.pages.now.pages) (pages_with (at c.args.pages.now.pages) c.args.edit.now.writes.items) (candidate c.args.pages.now.pages) 0 c.args.edit.now.taken c.args.tree.now.height c.args.tree.now.root c.args.tree.now c.args.tree.now es us key value (Some c.in-Replaced.old)
    refl c.requires.tree.height holds grew.grows grew.told refl refl refl (omega arith) (omega (arith, takes))

pub returns-in-Fits-clause-grew : goal.returns-in-Fits-clause-grew
returns-in-Fits-clause-grew g c = λ es us key value holds below.
    let grew = subst (λ (r : Grown). Grew (tree_below c.args.tree.now.order 1 c.args.tree.now.height c.args.tree.now.root) (edited c.args.pages.now.pages 0 c.args.edit.now) es us key value r) c.in-Fits.is below in
    let next_is = c.grown_tree.ensures in
    next_inserted (at c.args.pages.now.pages) (pages_with (at c.args.pages.now.pages) c.args.edit.now.writes.items) (candidate c.args.pages.now.pages) 0 c.args.edit.now.taken c.args.tree.now.height c.args.tree.now.root c.args.tree.now c.grown_tree.result es us key value None
    refl c.requires.tree.height holds grew.grows grew.told (ap (λ (t : Tree). t.order) next_is) (ap (λ (t : Tree). t.root) next_is) (ap (λ (t : Tree). t.height) next_is) (ap (λ (t : Tree). t.count) next_is) (ap (λ (t : Tree). t.used) next_is)

pub returns-in_ok-root-in-Split-clause-grew : goal.returns-in_ok-root-in-Split-clause-grew
returns-in_ok-root-in-Split-clause-grew g c = λ es us key value holds below.
    let used = in_use c.args.tree.now.order (at c.args.pages.now.pages) 1 c.args.tree.now.height c.args.tree.now.root es us (root_tree c.args.tree.now.order (at c.args.pages.now.pages) c.args.tree.now.height c.args.tree.now.root es us c.requires.tree.height holds.tree) in
    let grew = subst (λ (r : Grown). Grew (tree_below c.args.tree.now.order 1 c.args.tree.now.height c.args.tree.now.root) (edited c.args.pages.now.pages 0 c.args.edit.now) es us key value r) c.in-Split.is below in
    let up = subst (SplitGoesUp (record { low = None; high = None })) c.in-Split.is c.requires.goes_up in
    let next_is = c.grown_tree-in-Split.ensures in
    let left : IsSon c.args.tree.now.root = record { some = c.requires.in_use.some; most = c.fits-tree.1.0.1 } in
    let stands = root_stands c.args.tree.now.order c.args.tree.now.root c.in-Split.right c.in-Split.middle c.requires.tree.sizes.order.0 up.0 left up.2 in
    let ws_is = subst (λ (n : Node). c.add_node.new.edit.writes.items ≡ c.args.edit.now.writes.items ++ (c.in_ok-root-in-Split.root, spelling n c.args.tree.now.order) ∷ []) c.root_node.ensures c.in_ok-root-in-Split.ensures.writes in
    let whole = root_up c.args.tree.now.order (at c.args.pages.now.pages) c.args.edit.now.writes.items c.add_node.new.edit.writes.items (candidate c.args.pages.now.pages) c.args.edit.now.taken c.args.tree.now.height c.args.tree.now.root c.in_ok-root-in-Split.root us (set_in key (Some value) es) c.in-Split.middle c.in-Split.right
    c.requires.tree.height (candidates_free c.args.pages.now.pages) used grew.grows c.in_ok-root-in-Split.ensures.number stands ws_is in
    let taken_is : suc c.args.edit.now.taken ≡ c.add_node.new.edit.taken = omega (arith, c.in_ok-root-in-Split.ensures.taken) in
    let height_is : c.args.tree.now.height + 1 ≡ suc c.args.tree.now.height = omega arith in
    next_inserted (at c.args.pages.now.pages) (pages_with (at c.args.pages.now.pages) c.add_node.new.edit.writes.items) (candidate c.args.pages.now.pages) 0 c.add_node.new.edit.taken (suc c.args.tree.now.height) c.in_ok-root-in-Split.root c.args.tree.now c.grown_tree-in-Split.result es us key value None
    refl (omega arith) holds (subst (λ (x : ℕ). Whole (tree_below c.args.tree.now.order 1 (suc c.args.tree.now.height) c.in_ok-root-in-Split.root) (taking c.args.pages.now.pages (pages_with (at c.args.pages.now.pages) c.add_node.new.edit.writes.items) x) us (set_in key (Some value) es)) taken_is whole)
    grew.told (ap (λ (t : Tree). t.order) next_is) (ap (λ (t : Tree). t.root) next_is) (ap (λ (t : Tree). t.height) next_is ∙ height_is) (ap (λ (t : Tree). t.count) next_is) (ap (λ (t : Tree). t.used) next_is)
